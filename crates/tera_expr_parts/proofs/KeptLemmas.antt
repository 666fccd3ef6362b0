-- The names of arguments that are kept.
use Rattle.std.proofs.Common.{◌≡◌, ℕ, List, ◌∷◌, ◌++◌, [], ◌<◌, length, get_or, subst}
use Rattle.std.specs.Borrow.{Bor}
use Rattle.std.proofs.lemmas.List.Elements.{All-get_or, All-nil, All-push, All-same, All-weaker}
use Rattle.tera_base.specs.declared.utils.Span.{Span}
use Rattle.tera_lexer.specs.grammar.Tokens.{Items}
use Rattle.tera_expect.specs.Notes.{AreLeft, Came}
use Rattle.tera_expect.specs.Taking.{name_in}
use Rattle.tera_expect.proofs.NotesLemmas.{came_further}
use Rattle.tera_expr_parts.specs.Kept.{AreKept}

abbrev IsKept : Items → Items → Bor (List ℕ) × Span → Type 0
IsKept left items = λ p. Came (name_in p.0.now p.1) left items

pub none_kept : (names : List (Bor (List ℕ) × Span)) (left items : Items) → names ≡ [] → AreKept names left items
none_kept names left items none = All-same (IsKept left items) names [] none (All-nil (IsKept left items))

pub kept_further : (names : List (Bor (List ℕ) × Span)) (left mid items : Items) → AreLeft left mid → AreKept names mid items → AreKept names left items
kept_further names left mid items ahead kept =
    All-weaker (IsKept mid items) (IsKept left items) (λ p came. came_further (name_in p.0.now p.1) left mid items ahead came) names kept

pub one_kept : (names more : List (Bor (List ℕ) × Span)) (p : Bor (List ℕ) × Span) (left items : Items) → more ≡ names ++ p ∷ [] → AreKept names left items → Came (name_in p.0.now p.1) left items
    → AreKept more left items
one_kept names more p left items same kept came =
    All-same (IsKept left items) more (names ++ p ∷ []) same (All-push (IsKept left items) names p kept came)

-- one of the names that is this one
pub kept_at : (names : List (Bor (List ℕ) × Span)) (i : ℕ) (d : Bor (List ℕ) × Span) (name : List ℕ) (left items : Items) → i < length names → AreKept names left items → (get_or names i d).0.now ≡ name
    → Came (name_in name (get_or names i d).1) left items
kept_at names i d name left items lt kept same =
    subst (λ text. Came (name_in text (get_or names i d).1) left items) same (All-get_or (IsKept left items) names i d lt kept)
