-- The names of parameters, by where they are, are those that the definitions of their components have.
use Rattle.std.proofs.Common.{◌≡◌, ℕ, Bool, true, false, ◌||◌, List, [], ◌∷◌, ◌++◌, map, Less, Equal, Greater, nat_cmp, refl, sym, ap, ◌∙◌}
use Rattle.std.proofs.lemmas.List.{map-append}
use Rattle.std.proofs.lemmas.Map.Text.{is_eq-slice_cmp}
use Rattle.std.proofs.lemmas.Slice.Eq.{bytes_eq-Decides}
use Rattle.std.specs.Cmp.Lexicographic.{slice_cmp}
use Rattle.std.specs.FinMap.Entries.{by_order}
use Rattle.std.specs.List.{list_any}
use Rattle.std.specs.Ordering.{is_eq}
use Rattle.std.specs.Str.{bytes_eq}
use Rattle.std.specs.declared.cmp.Ordering.{Ordering}
use Rattle.tera_lexer.specs.grammar.Marks.{Marks}
use Rattle.tera_tree.specs.Tree.{Argument, Output}
use Rattle.tera_grammar.specs.statements.Components.{Parameters, Closed, Rest, Final, More, argument_of, definition_of, put_arguments, rest_of}
use Rattle.tera_grammar.specs.statements.Expressions.{Limits, component_text}
use Rattle.tera_grammar.specs.statements.Grammar.{Text, Shown, Set, Include, Extends, Break, Continue, Body, Done, Then, Item, Single, Block, Define, Capturing, For, If, Branches, Elif, Last, Else, NoElse, Otherwise, InFor, InForElse, InBlock, InIf, InComponent, InCapture, Path, is_outermost, Fits, FitsItem, names, item_names, branch_names, else_names}
use Rattle.tera_grammar.specs.statements.Output.{added_by, definitions_by, definitions_of, output}
use Rattle.tera_grammar.specs.statements.Places.{Places, places, item_places, branch_places, else_places, parameters_placed}
use Rattle.tera_grammar.specs.statements.TagParts.{Name}
use Rattle.tera_grammar.specs.statements.Top.{DerivesNames}
use Rattle.tera_grammar.specs.statements.Trees.{definition_names, group_names, has_argument, is_rest}
use Rattle.tera_grammar.specs.statements.Types.{Sorted, put_name}
use Rattle.tera_grammar.proofs.statements.Trees.{both_empty, no_components, no_branch_components, no_else_components, text_defines}

twice : (a b : Bool) → (a || b) ≡ (a || (a || b))
twice true b = refl
twice false b = refl

swap : (a b c : Bool) → (a || (b || c)) ≡ (b || (a || c))
swap true true c = refl
swap true false c = refl
swap false b c = refl

past : (a b c : Bool) → ((a || b) || c) ≡ (b || (a || c))
past true true c = refl
past true false c = refl
past false b c = refl

nothing_more : (a : Bool) → a ≡ (a || false)
nothing_more true = refl
nothing_more false = refl

-- of arguments with one more
put_has : (k : List ℕ) (v : Argument) (es : Sorted Argument) (name : List ℕ) → has_argument (put_name k v es) name ≡ (bytes_eq k name || has_argument es name)
put_has k v [] name = refl
put_has k v (e ∷ es) name = by (slice_cmp nat_cmp k e.0) refl (put_has k v es name)
  where
    by : (o : Ordering) → slice_cmp nat_cmp k e.0 ≡ o → has_argument (put_name k v es) name ≡ (bytes_eq k name || has_argument es name)
        → has_argument (by_order o ((k, v) ∷ e ∷ es) ((e.0, v) ∷ es) (e ∷ put_name k v es)) name ≡ (bytes_eq k name || (bytes_eq e.0 name || has_argument es name))
    by Less h following = refl
    by Equal h following =
        let same : k ≡ e.0 = (bytes_eq-Decides k e.0).0 (sym (is_eq-slice_cmp k e.0) ∙ ap is_eq h) in
        twice (bytes_eq e.0 name) (has_argument es name) ∙ ap (λ t. bytes_eq t name || (bytes_eq e.0 name || has_argument es name)) (sym same)
    by Greater h following = ap (λ b. bytes_eq e.0 name || b) following ∙ swap (bytes_eq e.0 name) (bytes_eq k name) (has_argument es name)

abbrev placed : Parameters → List ℕ → Bool
placed ps name = list_any (λ n. bytes_eq n.text name) (parameters_placed ps)

-- of parameters, whose arguments are put among others
reported : (ps : Parameters) (args : Sorted Argument) (name : List ℕ) → (has_argument (put_arguments ps args) name || is_rest (rest_of ps) name) ≡ (has_argument args name || placed ps name)
reported (Closed end) args name = refl
reported (Rest dots n end) args name = ap (λ b. has_argument args name || b) (nothing_more (bytes_eq n.text name))
reported (Final p end) args name =
    ap (λ b. b || false) (put_has p.name.text (argument_of p) args name) ∙ past (bytes_eq p.name.text name) (has_argument args name) false
reported (More p comma ps) args name =
    reported ps (put_name p.name.text (argument_of p) args) name ∙ ap (λ b. b || placed ps name) (put_has p.name.text (argument_of p) args name)
    ∙ past (bytes_eq p.name.text name) (has_argument args name) (placed ps name)

-- the names under which they are stored are those of the components
abbrev grouped : Places → List (List ℕ)
grouped p = map (λ g. g.0) p.parameters

both_grouped : (a b : List (List ℕ × List Name)) (x y : List (List ℕ)) → map (λ g. g.0) a ≡ x → map (λ g. g.0) b ≡ y → map (λ g. g.0) (a ++ b) ≡ x ++ y
both_grouped a b x y first then = map-append (λ g. g.0) a b ∙ (λ i. first i ++ then i)

mutual
  same_groups : (b : Body) → grouped (places b) ≡ (names b).components
  same_groups Done = refl
  same_groups (Then i b) = both_grouped (item_places i).parameters (places b).parameters _ _ (same_item_groups i) (same_groups b)

  same_item_groups : (i : Item) → grouped (item_places i) ≡ (item_names i).components
  same_item_groups (Single p) = refl
  same_item_groups (Block t n b e m) = same_groups b
  same_item_groups (Define h b) = ap (λ v. component_text h.name ∷ v) (same_groups b)
  same_item_groups (Capturing c b) = same_groups b
  same_item_groups (For t lp b o e) = both_grouped (places b).parameters (else_places o).parameters _ _ (same_groups b) (same_else_groups o)
  same_item_groups (If t c b bs e) = both_grouped (places b).parameters (branch_places bs).parameters _ _ (same_groups b) (same_branch_groups bs)

  same_branch_groups : (bs : Branches) → grouped (branch_places bs) ≡ (branch_names bs).components
  same_branch_groups (Elif t c b bs) = both_grouped (places b).parameters (branch_places bs).parameters _ _ (same_groups b) (same_branch_groups bs)
  same_branch_groups (Last o) = same_else_groups o

  same_else_groups : (o : Else) → grouped (else_places o) ≡ (else_names o).components
  same_else_groups NoElse = refl
  same_else_groups (Otherwise t b) = same_groups b

-- so inside of another tag there are none
no_names : (gs : List (List ℕ × List Name)) → map (λ g. g.0) gs ≡ [] → gs ≡ []
no_names [] h = refl
no_names (g ∷ gs) h = cc

no_groups : (b : Body) (l : Limits) (path : Path) → is_outermost path ≡ false → Fits l path b → (places b).parameters ≡ []
no_groups b l path inside fits = no_names (places b).parameters (same_groups b ∙ no_components b l path inside fits)

-- the definitions report the same
item_parameters : (i : Item) (l : Limits) → FitsItem l [] i → map definition_names (definitions_by (added_by false i)) ≡ map group_names (item_places i).parameters
item_parameters (Single (Text text span)) l fits = ap (map definition_names) (text_defines text)
item_parameters (Single (Shown a e b)) l fits = refl
item_parameters (Single (Set g t n s e)) l fits = refl
item_parameters (Single (Include t q span)) l fits = refl
item_parameters (Single (Extends t q span)) l fits = refl
item_parameters (Single (Break t)) l fits = refl
item_parameters (Single (Continue t)) l fits = refl
item_parameters (Block t n b e m) l fits = ap (map group_names) (sym (no_groups b l (InBlock ∷ []) refl fits.2))
item_parameters (Define h b) l fits =
    let one : definition_names (definition_of h (output false b)) ≡ group_names (component_text h.name, parameters_placed h.parameters) = λ i.
    (component_text h.name, λ name. reported h.parameters [] name i) in
    λ i. one i ∷ map group_names (sym (no_groups b l (InComponent ∷ []) refl fits.2) i)
item_parameters (Capturing c b) l fits = ap (map group_names) (sym (no_groups b l (InCapture ∷ []) refl fits.1))
item_parameters (For t lp b o e) l fits =
    ap (map group_names) (sym (both_empty (places b).parameters (else_places o).parameters (no_groups b l (InFor ∷ []) refl fits.1)
    (no_names (else_places o).parameters (same_else_groups o ∙ no_else_components o l (InForElse ∷ []) refl fits.2))))
item_parameters (If t c b bs e) l fits =
    ap (map group_names) (sym (both_empty (places b).parameters (branch_places bs).parameters (no_groups b l (InIf ∷ []) refl fits.1)
    (no_names (branch_places bs).parameters (same_branch_groups bs ∙ no_branch_components bs l (InIf ∷ []) refl fits.2))))

same_parameters : (b : Body) (l : Limits) → Fits l [] b → map definition_names (definitions_of b) ≡ map group_names (places b).parameters
same_parameters Done l fits = refl
same_parameters (Then i b) l fits =
    map-append definition_names (definitions_by (added_by false i)) (definitions_of b)
    ∙ (λ j. item_parameters i l fits.0 j ++ same_parameters b l fits.1 j)
    ∙ sym (map-append group_names (item_places i).parameters (places b).parameters)

pub parameters_reported : (l : Limits) (m : Marks) (source : List ℕ) (output : Output) (ns : Places) → DerivesNames l m source output ns
    → map group_names ns.parameters ≡ map definition_names output.definitions
parameters_reported l m source output ns (pieces, division, (b, is, same, named)) =
    ap (λ (p : Places). map group_names p.parameters) named ∙ sym (same_parameters b l is.fits) ∙ ap (λ (o : Output). map definition_names o.definitions) (sym same)
