-- Places that are listed, one file after another.
use Rattle.std.proofs.Common.{◌≡◌, ◌∙◌, ◌++◌, ◌∷◌, [], List, map, inl, inr, refl, sym, ap, subst, append_assoc}
use Rattle.std.specs.List.{filter, flat_map}
use Rattle.std.proofs.lemmas.Bool.{cases_Bool}
use Rattle.std.proofs.lemmas.List.{append-nil}
use Rattle.std.proofs.lemmas.List.Concat.{flat_map-append}
use Rattle.json.specs.Json.{Json}
use Rattle.json.specs.Token.{Token}
use Rattle.json.specs.Tree.{json_tokens}
use Rattle.tera_outline.specs.Names.{Named}
use Rattle.tera_workspace.specs.Sources.{Source}
use Rattle.tera_answers.specs.References.{LookedFor, refers, reference_json, AreReferencesIn, AreReferences, reference_tokens}

-- the places in a file, as they are written
pub references_written : (k : LookedFor) (s : Source) (ns : List Named) → flat_map (reference_tokens k s) ns ≡ flat_map json_tokens (map (reference_json k s) (filter (refers k) ns))
unfolding reference_tokens
references_written k s [] = refl
references_written k s (n ∷ ns) = elim (cases_Bool (refers k n)) [
  | inl is ↦ rw is (ap (λ ts. json_tokens (reference_json k s n) ++ ts) (references_written k s ns))
  | inr other ↦ rw other (references_written k s ns)
]

-- the places in the first of all files are listed, and those in these files follow
pub record AreListed (k : LookedFor) (all left : List Source) (old now : List Token) : Type 0 where
  pub first : List Json
  pub follow : (rest : List Json) → AreReferences k left rest → AreReferences k all (first ++ rest)
  pub written : now ≡ old ++ flat_map json_tokens first

pub one_listed : (k : LookedFor) (all left : List Source) (s : Source) (old then now : List Token) (js : List Json) → AreListed k all (s ∷ left) old then
    → AreReferencesIn k s js → now ≡ then ++ flat_map json_tokens js → AreListed k all left old now
one_listed k all left s old then now js h here is = record {
  first = h.first ++ js;
  follow = λ rest are. subst (λ xs. AreReferences k all xs) (sym (append_assoc h.first js rest)) (h.follow (js ++ rest) (js, rest, here, are, refl));
  written =
      is
      ∙ (ap (λ ts. ts ++ flat_map json_tokens js) h.written
      ∙ (append_assoc old (flat_map json_tokens h.first) (flat_map json_tokens js) ∙ ap (λ ts. old ++ ts) (sym (flat_map-append json_tokens h.first js))));
}

pub all_listed : (k : LookedFor) (all : List Source) (old now : List Token) → AreListed k all [] old now
    → (js : List Json) × AreReferences k all js × (now ≡ old ++ flat_map json_tokens js)
all_listed k all old now h = (h.first, subst (λ xs. AreReferences k all xs) (append-nil h.first) (h.follow [] refl), h.written)
