-- The components that the top level of a template defines, as it is read.
use Rattle.std.proofs.Common.{◌≡◌, ◌⊎◌, ◌≤◌, ℕ, false, true, inl, inr, List, [], ◌∷◌, ◌++◌, codes, Some, refl, ap, ◌∙◌, arith}
use Rattle.tera_lexer.specs.code.Cursors.{size}
use Rattle.tera_lexer.specs.grammar.Tokens.{Items}
use Rattle.tera_grammar.specs.Reads.{found}
use Rattle.tera_grammar.specs.expressions.Marks.{LeftParen, mark}
use Rattle.tera_grammar.specs.statements.Tags.{Name, Tag, finish, if_any, keyword}
use Rattle.tera_grammar.specs.statements.Expressions.{ComponentName, Limits, component_yield, map_yield}
use Rattle.tera_grammar.specs.statements.Components.{ending_yield, parameters_yield}
use Rattle.tera_grammar.specs.statements.Grammar.{Body, Done, Then, Item, Single, Block, Define, Capturing, For, If, Branches, Elif, Last, Else, NoElse, Otherwise, Context, InBlock, InCapture, InComponent, InFor, InForElse, InIf, Path, Fits, FitsItem, FitsBranches, FitsElse, item_yield, yield}
use Rattle.tera_grammar.specs.statements.Places.{branch_places, else_places, item_places, placed_name, places}
use Rattle.tera_grammar.specs.statements.Reading.{Place, body, top_step}
use Rattle.tera_grammar.specs.statements.Reading.Meeting.{Located, Seen, locate, locate_all}
use Rattle.tera_grammar.specs.statements.Reading.Phases.{Phase}
use Rattle.tera_grammar.specs.statements.Reading.TagParts.{front}
use Rattle.tera_grammar.proofs.plain.statements.Reading.{body as plain_body}
use Rattle.tera_grammar.proofs.statements.Components.{ending_size, metadata_size, parameters_size}
use Rattle.tera_grammar.proofs.statements.Found.{body_sound, step_found}
use Rattle.tera_grammar.proofs.statements.TagParts.{front_is}
use Rattle.tera_grammar.proofs.statements.Unrolled.{body_size}
use Rattle.tera_grammar.proofs.stops.ForgetTags.{top_found}

both_none : (xs ys : List Name) → xs ≡ [] → ys ≡ [] → xs ++ ys ≡ []
both_none xs ys none too = rw (none, too) refl

not_outermost : false ≡ true → ⊥
not_outermost e = cc

-- no component is defined in another statement
module _ (l : Limits) where
  mutual
    none_inside : (c : Context) (path : Path) (b : Body) → Fits l (c ∷ path) b → (places b).components ≡ []
    none_inside c path Done fits = refl
    none_inside c path (Then i b) fits = both_none (item_places i).components (places b).components (none_in_item c path i fits.0) (none_inside c path b fits.1)

    none_in_item : (c : Context) (path : Path) (i : Item) → FitsItem l (c ∷ path) i → (item_places i).components ≡ []
    none_in_item c path (Single p) fits = refl
    none_in_item c path (Block t n b e m) fits = none_inside InBlock (c ∷ path) b fits.2
    none_in_item c path (Define h b) fits = absurd (not_outermost fits.0)
    none_in_item c path (Capturing x b) fits = none_inside InCapture (c ∷ path) b fits.1
    none_in_item c path (For t lp b o e) fits =
        both_none (places b).components (else_places o).components (none_inside InFor (c ∷ path) b fits.1) (none_in_else InForElse (c ∷ path) o fits.2)
    none_in_item c path (If t x b bs e) fits =
        both_none (places b).components (branch_places bs).components (none_inside InIf (c ∷ path) b fits.1) (none_in_branches InIf (c ∷ path) bs fits.2)

    none_in_branches : (c : Context) (path : Path) (bs : Branches) → FitsBranches l (c ∷ path) bs → (branch_places bs).components ≡ []
    none_in_branches c path (Elif t x b bs) fits =
        both_none (places b).components (branch_places bs).components (none_inside c path b fits.1) (none_in_branches c path bs fits.2)
    none_in_branches c path (Last o) fits = none_in_else c path o fits

    none_in_else : (c : Context) (path : Path) (o : Else) → FitsElse l (c ∷ path) o → (else_places o).components ≡ []
    none_in_else c path NoElse fits = refl
    none_in_else c path (Otherwise t b) fits = none_inside c path b fits

-- One component more is met than was before: its name is among these tokens, and those are left after it.
pub record Defines (old new : Located) (items left : Items) : Type 0 where
  pub name : ComponentName
  pub tag : Tag
  pub after : Items
  pub tokens : items ≡ keyword (codes "component") tag (component_yield name after)
  pub later : size left ≤ size after
  pub kept : new ≡ locate (placed_name name) old

-- an item of the top level defines a component, or none
item_defines : (l : Limits) (i : Item) (old new : Located) (items left : Items) → FitsItem l [] i → items ≡ item_yield i left → new ≡ locate_all (item_places i).components old
    → (new ≡ old) ⊎ Defines old new items left
item_defines l (Single p) old new items left fits spelled grown = inl grown
item_defines l (Block t n b e m) old new items left fits spelled grown = inl (grown ∙ ap (λ (ns : List Name). locate_all ns old) (none_inside l InBlock [] b fits.2))
item_defines l (Capturing c b) old new items left fits spelled grown = inl (grown ∙ ap (λ (ns : List Name). locate_all ns old) (none_inside l InCapture [] b fits.1))
item_defines l (For t lp b o e) old new items left fits spelled grown =
    inl (grown ∙ ap (λ (ns : List Name). locate_all ns old) (both_none (places b).components (else_places o).components (none_inside l InFor [] b fits.1) (none_in_else l InForElse [] o fits.2)))
item_defines l (If t c b bs e) old new items left fits spelled grown =
    inl (grown ∙ ap (λ (ns : List Name). locate_all ns old) (both_none (places b).components (branch_places bs).components (none_inside l InIf [] b fits.1) (none_in_branches l InIf [] bs fits.2)))
item_defines l (Define h b) old new items left fits spelled grown =
    let inside = yield b (ending_yield h left) in
    let metadata = if_any map_yield h.metadata (finish h.tag inside) in
    inr (record {
      name = h.name;
      tag = h.tag;
      after = mark LeftParen h.paren (parameters_yield h.parameters metadata);
      tokens = spelled;
      later = omega (arith, ending_size h left, body_size b (ending_yield h left), metadata_size h.metadata (finish h.tag inside), parameters_size h.parameters metadata);
      kept = grown ∙ ap (λ (ns : List Name). locate_all (placed_name h.name ∷ ns) old) (none_inside l InComponent [] b fits.2);
    })

pub top_defines : (l : Limits) (d : ℕ) (phase : Phase) (old new : Place) (i : Item) → top_step l (body d l) phase old.seen old.tokens (front old.tokens) ≡ found (Some i, new)
    → (new.seen.components ≡ old.seen.components) ⊎ Defines old.seen.components new.seen.components old.tokens new.tokens
top_defines l d phase old new i read =
    let found = step_found l d (plain_body d l) (body_sound l d) [] old.seen old.tokens (front old.tokens) (i, new) (front_is old.tokens)
    (top_found l d phase old.seen old.tokens (front old.tokens) (i, new) read) in
    item_defines l i old.seen.components new.seen.components old.tokens new.tokens found.fits found.tokens (ap (λ (s : Seen). s.components) found.named.grown)
