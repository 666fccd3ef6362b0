-- How messages leave the server in step.
use Rattle.std.proofs.Common.{◌≡◌, ◌∙◌, ℕ, List, Option, sym, subst}
use Rattle.json.specs.Json.{Json}
use Rattle.json_rpc.specs.Ids.{IdVal, NullId, NumberId, TextId}
use Rattle.tera_workspace.specs.Workspaces.{IsKept}
use Rattle.tera_server.specs.Notes.{Texts, Edits, IsInStep}
use Rattle.tera_server.specs.Steps.{EditsIn, IsPassedOver, EditsPassedOver, Follows}
use Rattle.tera_server.specs.declared.notes.Noted.{Noted}
use Rattle.tera_server.specs.declared.server.Phase.TheVariants.{Running}
use Rattle.tera_server.specs.declared.server.Server.{Server}
use Rattle.tera_server.proofs.StepLemmas.{missed_unopened, missed_step}

-- where no text is another
pub same_texts : (texts now : Texts) (s : Server) → ((n : List ℕ) → now n ≡ texts n) → Follows texts s → Follows now s
same_texts texts now s same f = record { in_step = λ n is. f.in_step n is ∙ sym (same n); unopened = f.unopened }

-- what is not taken leaves the texts known that are those of the editor
pub passed_follows : (id : IdVal) (s t : Server) (texts now : Texts) → IsPassedOver id s t → EditsPassedOver id texts now → Follows texts s → Follows now t
passed_follows NullId s t texts now h edits f = record {
  in_step = missed_step s t now h;
  unopened = λ begun n sound. absurd (missed_unopened s t h n sound);
}
passed_follows (NumberId number) s t texts now h same f = same_texts texts now t same (subst (λ u. Follows texts u) (sym h) f)
passed_follows (TextId text) s t texts now h same f = same_texts texts now t same (subst (λ u. Follows texts u) (sym h) f)

pub passed_kept : (id : IdVal) (s t : Server) → IsPassedOver id s t → IsKept s.workspace → IsKept t.workspace
passed_kept NullId s t h kept = subst (λ (u : Server). IsKept u.workspace) (sym h.same) kept
passed_kept (NumberId number) s t h kept = subst (λ (u : Server). IsKept u.workspace) (sym h) kept
passed_kept (TextId text) s t h kept = subst (λ (u : Server). IsKept u.workspace) (sym h) kept

-- once the exchange has begun, notes are what changes texts
pub noted_follows : (noted : Noted) (params : Option Json) (s t : Server) (texts now : Texts) → s.phase ≡ Running → t.phase ≡ s.phase →
    (Edits s.workspace.encoding noted params texts now → IsInStep texts s → IsInStep now t) →
    EditsIn s.phase s noted params texts now → Follows texts s → Follows now t
noted_follows noted params s t texts now running stays step edits f = record {
  in_step = step (subst (λ p. EditsIn p s noted params texts now) running edits) f.in_step;
  unopened = λ begun. absurd (cc (begun, stays, running));
}
