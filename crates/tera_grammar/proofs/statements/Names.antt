-- Names with no two equal, as names that are met one after another.
use Rattle.std.proofs.Common.{◌≡◌, ◌≢◌, ℕ, Bool, true, false, ◌||◌, cond, List, [], ◌∷◌, ◌++◌, Option, Some, is_some, refl, sym, ap, subst, ◌∙◌}
use Rattle.std.proofs.lemmas.List.{map-append}
use Rattle.std.specs.List.{AllByRecursion}
use Rattle.tera_grammar.specs.Words.{AreDistinct}
use Rattle.tera_base.specs.declared.utils.Span.{Span}
use Rattle.tera_grammar.specs.statements.Expressions.{ComponentName, component_text}
use Rattle.tera_grammar.specs.statements.Components.{Parameters}
use Rattle.tera_grammar.specs.statements.Grammar.{Body, Done, Then, Item, Single, Block, Define, Capturing, For, If, Branches, Elif, Last, Else, NoElse, Otherwise, names, item_names, branch_names, else_names}
use Rattle.tera_grammar.specs.statements.Names.{Names, NamesAreDistinct, ◌and_then◌}
use Rattle.tera_grammar.specs.statements.TagParts.{Name}
use Rattle.tera_grammar.specs.statements.Places.{Places, no_places, block_placed, component_placed, ◌followed_by◌, texts, texts_of, places, item_places, branch_places, else_places}
use Rattle.tera_grammar.specs.statements.Reading.Meeting.{Met, Seen, Located, Grouped, locate, locate_all, group, group_all, nothing_located, meet, met, nothing_met, nothing_seen, ◌having◌}
use Rattle.tera_grammar.proofs.Options.{or_false, bytes_apart, bytes_differ}

-- no name was met before
abbrev pub AreNew : Met → List (List ℕ) → Type 0
AreNew met [] = Unit {0}
AreNew met (n ∷ ns) = (met n ≡ false) × AreNew (meet n met) ns

abbrev NoneMet : Met → List (List ℕ) → Type 0
NoneMet met ns = AllByRecursion (λ m. met m ≡ false) ns

unmet_before : (n : List ℕ) (met : Met) (ns : List (List ℕ)) → NoneMet (meet n met) ns → NoneMet met ns
unmet_before n met [] h = tt
unmet_before n met (m ∷ ms) h = ((or_false _ _ h.0).1, unmet_before n met ms h.1)

unmet_apart : (n : List ℕ) (met : Met) (ns : List (List ℕ)) → NoneMet (meet n met) ns → AllByRecursion (λ m. n ≢ m) ns
unmet_apart n met [] h = tt
unmet_apart n met (m ∷ ms) h = (bytes_differ n m (or_false _ _ h.0).0, unmet_apart n met ms h.1)

unmet_after : (n : List ℕ) (met : Met) (ns : List (List ℕ)) → AllByRecursion (λ m. n ≢ m) ns → NoneMet met ns → NoneMet (meet n met) ns
unmet_after n met [] apart h = tt
unmet_after n met (m ∷ ms) apart h = (rw (bytes_apart n m apart.0, h.0) refl, unmet_after n met ms apart.1 h.1)

none_met : (met : Met) (ns : List (List ℕ)) → AreNew met ns → NoneMet met ns
none_met met [] new = tt
none_met met (n ∷ ns) new = (new.0, unmet_before n met ns (none_met (meet n met) ns new.1))

-- new names are distinct
pub new_distinct : (met : Met) (ns : List (List ℕ)) → AreNew met ns → AreDistinct ns
new_distinct met [] new = tt
new_distinct met (n ∷ ns) new = (unmet_apart n met ns (none_met (meet n met) ns new.1), new_distinct (meet n met) ns new.1)

distinct_new : (met : Met) (ns : List (List ℕ)) → NoneMet met ns → AreDistinct ns → AreNew met ns
distinct_new met [] none distinct = tt
distinct_new met (n ∷ ns) none distinct = (none.0, distinct_new (meet n met) ns (unmet_after n met ns distinct.0 none.1) distinct.1)

nothing_unmet : (ns : List (List ℕ)) → NoneMet nothing_met ns
nothing_unmet [] = tt
nothing_unmet (n ∷ ns) = (refl, nothing_unmet ns)

-- distinct names are new where nothing was met
pub all_new : (ns : List (List ℕ)) → AreDistinct ns → AreNew nothing_met ns
all_new ns distinct = distinct_new nothing_met ns (nothing_unmet ns) distinct

-- and so for names that are met at their places
abbrev AreUnmet : Located → List Name → Type 0
AreUnmet located [] = Unit {0}
AreUnmet located (n ∷ ns) = (met located n.text ≡ false) × AreUnmet (locate n located) ns

either : (b : Bool) (span : Span) (r : Option Span) → is_some (cond b (Some span) r) ≡ (b || is_some r)
either true span r = refl
either false span r = refl

pub met_located : (n : Name) (located : Located) → met (locate n located) ≡ meet n.text (met located)
met_located n located =
    let is : (name : List ℕ) → met (locate n located) name ≡ meet n.text (met located) name = λ name. either _ n.span (located name) in
    λ i name. is name i

texts_new : (located : Located) (ns : List Name) → AreUnmet located ns → AreNew (met located) (texts ns)
texts_new located [] h = tt
texts_new located (n ∷ ns) h = (h.0, subst (λ m. AreNew m (texts ns)) (met_located n located) (texts_new (locate n located) ns h.1))

texts_unmet : (located : Located) (ns : List Name) → AreNew (met located) (texts ns) → AreUnmet located ns
texts_unmet located [] h = tt
texts_unmet located (n ∷ ns) h = (h.0, texts_unmet (locate n located) ns (subst (λ m. AreNew m (texts ns)) (sym (met_located n located)) h.1))

-- the names of what comes first, and of what comes then
locate_append : (xs ys : List Name) (located : Located) → locate_all ys (locate_all xs located) ≡ locate_all (xs ++ ys) located
locate_append [] ys located = refl
locate_append (x ∷ xs) ys located = locate_append xs ys (locate x located)

group_append : (gs hs : List (List ℕ × List Name)) (grouped : Grouped) → group_all hs (group_all gs grouped) ≡ group_all (gs ++ hs) grouped
group_append [] hs grouped = refl
group_append (g ∷ gs) hs grouped = group_append gs hs (group g.0 (locate_all g.1 nothing_located) grouped)

unmet_first : (located : Located) (xs ys : List Name) → AreUnmet located (xs ++ ys) → AreUnmet located xs
unmet_first located [] ys new = tt
unmet_first located (x ∷ xs) ys new = (new.0, unmet_first (locate x located) xs ys new.1)

unmet_then : (located : Located) (xs ys : List Name) → AreUnmet located (xs ++ ys) → AreUnmet (locate_all xs located) ys
unmet_then located [] ys new = new
unmet_then located (x ∷ xs) ys new = unmet_then (locate x located) xs ys new.1

unmet_both : (located : Located) (xs ys : List Name) → AreUnmet located xs → AreUnmet (locate_all xs located) ys → AreUnmet located (xs ++ ys)
unmet_both located [] ys first then = then
unmet_both located (x ∷ xs) ys first then = (first.0, unmet_both (locate x located) xs ys first.1 then)

-- and so for the two kinds of names
abbrev pub NamesAreNew : Seen → Places → Type 0
NamesAreNew seen n = AreUnmet seen.blocks n.blocks × AreUnmet seen.components n.components

pub names_distinct : (n : Places) → NamesAreNew nothing_seen n → NamesAreDistinct (texts_of n)
names_distinct n new = (
  new_distinct nothing_met (texts n.blocks) (texts_new nothing_located n.blocks new.0),
  new_distinct nothing_met (texts n.components) (texts_new nothing_located n.components new.1),
)

pub names_new : (n : Places) → NamesAreDistinct (texts_of n) → NamesAreNew nothing_seen n
names_new n distinct = (
  texts_unmet nothing_located n.blocks (all_new (texts n.blocks) distinct.0),
  texts_unmet nothing_located n.components (all_new (texts n.components) distinct.1),
)

pub having_both : (seen : Seen) (a b : Places) → (seen having a) having b ≡ seen having (a followed_by b)
having_both seen a b = λ i. record {
  blocks = locate_append a.blocks b.blocks seen.blocks i;
  components = locate_append a.components b.components seen.components i;
  parameters = group_append a.parameters b.parameters seen.parameters i;
}

pub first_names : (seen : Seen) (a b : Places) → NamesAreNew seen (a followed_by b) → NamesAreNew seen a
first_names seen a b new = (unmet_first seen.blocks a.blocks b.blocks new.0, unmet_first seen.components a.components b.components new.1)

pub then_names : (seen : Seen) (a b : Places) → NamesAreNew seen (a followed_by b) → NamesAreNew (seen having a) b
then_names seen a b new = (unmet_then seen.blocks a.blocks b.blocks new.0, unmet_then seen.components a.components b.components new.1)

both_names : (seen : Seen) (a b : Places) → NamesAreNew seen a → NamesAreNew (seen having a) b → NamesAreNew seen (a followed_by b)
both_names seen a b first then = (unmet_both seen.blocks a.blocks b.blocks first.0 then.0, unmet_both seen.components a.components b.components first.1 then.1)

-- These names were met, each of them for the first time.
pub record Named (ns : Places) (old new : Seen) : Type 0 where
  pub grown : new ≡ old having ns
  pub fresh : NamesAreNew old ns

pub named_nothing : (old : Seen) → Named no_places old old
named_nothing old = record { grown = refl; fresh = (tt, tt) }

pub named_both : (ns ms : Places) {old mid new : Seen} → Named ns old mid → Named ms mid new → Named (ns followed_by ms) old new
named_both ns ms {old = old} a b = record {
  grown = b.grown ∙ ap (λ k. k having ms) a.grown ∙ having_both old ns ms;
  fresh = both_names old ns ms a.fresh (subst (λ seen. NamesAreNew seen ms) a.grown b.fresh);
}

pub named_block : (n : Name) (ns : Places) {old new : Seen} → met old.blocks n.text ≡ false → Named ns (old having block_placed n) new → Named (block_placed n followed_by ns) old new
named_block n ns {old = old} unmet a = record {
  grown = a.grown ∙ having_both old (block_placed n) ns;
  fresh = both_names old (block_placed n) ns ((unmet, tt), tt) a.fresh;
}

pub named_component : (n : ComponentName) (ps : Parameters) (ns : Places) {old new : Seen} → met old.components (component_text n) ≡ false
    → Named ns (old having component_placed n ps) new → Named (component_placed n ps followed_by ns) old new
named_component n ps ns {old = old} unmet a = record {
  grown = a.grown ∙ having_both old (component_placed n ps) ns;
  fresh = both_names old (component_placed n ps) ns (tt, (unmet, tt)) a.fresh;
}

-- The names with their places are the names.
both_texts : (a b : Places) (x y : Names) → texts_of a ≡ x → texts_of b ≡ y → texts_of (a followed_by b) ≡ x and_then y
both_texts a b x y first then =
    let apart : texts_of (a followed_by b) ≡ texts_of a and_then texts_of b = λ i. record {
      blocks = map-append (λ n. n.text) a.blocks b.blocks i;
      components = map-append (λ n. n.text) a.components b.components i;
    } in
    apart ∙ ap (λ n. n and_then texts_of b) first ∙ ap (λ n. x and_then n) then

mutual
  pub same_names : (b : Body) → texts_of (places b) ≡ names b
  same_names Done = refl
  same_names (Then i b) = both_texts (item_places i) (places b) _ _ (same_item_names i) (same_names b)

  same_item_names : (i : Item) → texts_of (item_places i) ≡ item_names i
  same_item_names (Single p) = refl
  same_item_names (Block t n b e m) = both_texts (block_placed n) (places b) _ _ refl (same_names b)
  same_item_names (Define h b) = both_texts (component_placed h.name h.parameters) (places b) _ _ refl (same_names b)
  same_item_names (Capturing c b) = same_names b
  same_item_names (For t lp b o e) = both_texts (places b) (else_places o) _ _ (same_names b) (same_else_names o)
  same_item_names (If t c b bs e) = both_texts (places b) (branch_places bs) _ _ (same_names b) (same_branch_names bs)

  same_branch_names : (bs : Branches) → texts_of (branch_places bs) ≡ branch_names bs
  same_branch_names (Elif t c b bs) = both_texts (places b) (branch_places bs) _ _ (same_names b) (same_branch_names bs)
  same_branch_names (Last o) = same_else_names o

  same_else_names : (o : Else) → texts_of (else_places o) ≡ else_names o
  same_else_names NoElse = refl
  same_else_names (Otherwise t b) = same_names b
