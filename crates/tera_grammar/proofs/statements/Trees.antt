-- The tree of a template is right.
use Rattle.std.proofs.Common.{◌≡◌, ℕ, Bool, true, false, List, [], ◌∷◌, ◌++◌, map, Some, None, refl, sym, ap, subst, ◌∙◌, append_assoc, append-nil, ⊎_elim}
use Rattle.std.specs.List.{AllByRecursion}
use Rattle.std.proofs.lemmas.List.{map-append}
use Rattle.tera_lexer.specs.grammar.Tokens.{Items}
use Rattle.tera_ast.specs.Tree as tree
use Rattle.tera_ast.specs.Tree.{Expr, Stmt}
use Rattle.tera_tree.specs.Tree.{Definition}
use Rattle.tera_ast.specs.View.{nodes_of}
use Rattle.tera_grammar.proofs.Options.{none_some}
use Rattle.tera_grammar.proofs.expressions.Bodiless.{has_body}
use Rattle.tera_grammar.specs.Words.{AreDistinct}
use Rattle.tera_grammar.specs.statements.Expressions.{Limits, expression_output, component_text}
use Rattle.tera_grammar.specs.statements.Heads.{SetBody, Section, CallBody}
use Rattle.tera_grammar.specs.statements.Grammar.{Text, Shown, Set, Include, Extends, Break, Continue, Body, Done, Then, Item, Single, Block, Define, Capturing, For, If, Branches, Elif, Last, Else, NoElse, Otherwise, InFor, InForElse, InBlock, InIf, InComponent, InCapture, Path, may_block, may_break, is_outermost, Fits, FitsItem, FitsBranches, FitsElse, names, item_names, branch_names, else_names}
use Rattle.tera_grammar.specs.statements.Output.{text_adds, added_nodes, added_by, later, parent_by, definitions_by, output, branch_output, else_output, parent_of, definitions_of, output_of}
use Rattle.tera_grammar.specs.statements.Top.{is_blank, is_silent, is_kept, IsExtends, Each, Child, TopLevel, IsTemplate}
use Rattle.tera_grammar.specs.statements.Trees.{blocks, stmt_blocks, BreaksAreInside, BreakIsInside, IsKeptNode, IsRight}
use Rattle.tera_grammar.proofs.statements.Expressions.{expression_plain}
use Rattle.tera_grammar.proofs.statements.Joins.{output-join}

pub both_empty : {A : Type 0} (xs ys : List A) → xs ≡ [] → ys ≡ [] → xs ++ ys ≡ []
both_empty xs ys a b = ap (λ v. v ++ ys) a ∙ b

-- where no block may be there is none
mutual
  no_blocks : (b : Body) (l : Limits) (path : Path) → may_block path ≡ false → Fits l path b → (names b).blocks ≡ []
  no_blocks Done l path may fits = refl
  no_blocks (Then i b) l path may fits = both_empty (item_names i).blocks (names b).blocks (no_block i l path may fits.0) (no_blocks b l path may fits.1)

  no_block : (i : Item) (l : Limits) (path : Path) → may_block path ≡ false → FitsItem l path i → (item_names i).blocks ≡ []
  no_block (Single p) l path may fits = refl
  no_block (Block t n b e m) l path may fits = cc
  no_block (Define h b) l path may fits = no_blocks b l (InComponent ∷ path) refl fits.2
  no_block (Capturing c b) l path may fits = no_blocks b l (InCapture ∷ path) may fits.1
  no_block (For t lp b o e) l path may fits = both_empty (names b).blocks (else_names o).blocks (no_blocks b l (InFor ∷ path) refl fits.1) (no_else_blocks o l (InForElse ∷ path) may fits.2)
  no_block (If t c b bs e) l path may fits = both_empty (names b).blocks (branch_names bs).blocks (no_blocks b l (InIf ∷ path) may fits.1) (no_branch_blocks bs l (InIf ∷ path) may fits.2)

  no_branch_blocks : (bs : Branches) (l : Limits) (path : Path) → may_block path ≡ false → FitsBranches l path bs → (branch_names bs).blocks ≡ []
  no_branch_blocks (Elif t c b bs) l path may fits = both_empty (names b).blocks (branch_names bs).blocks (no_blocks b l path may fits.1) (no_branch_blocks bs l path may fits.2)
  no_branch_blocks (Last o) l path may fits = no_else_blocks o l path may fits

  no_else_blocks : (o : Else) (l : Limits) (path : Path) → may_block path ≡ false → FitsElse l path o → (else_names o).blocks ≡ []
  no_else_blocks NoElse l path may fits = refl
  no_else_blocks (Otherwise t b) l path may fits = no_blocks b l path may fits

-- inside of another tag no component is defined
mutual
  pub no_components : (b : Body) (l : Limits) (path : Path) → is_outermost path ≡ false → Fits l path b → (names b).components ≡ []
  no_components Done l path inside fits = refl
  no_components (Then i b) l path inside fits = both_empty (item_names i).components (names b).components (no_component i l path inside fits.0) (no_components b l path inside fits.1)

  no_component : (i : Item) (l : Limits) (path : Path) → is_outermost path ≡ false → FitsItem l path i → (item_names i).components ≡ []
  no_component (Single p) l path inside fits = refl
  no_component (Block t n b e m) l path inside fits = no_components b l (InBlock ∷ path) refl fits.2
  no_component (Define h b) l path inside fits = cc
  no_component (Capturing c b) l path inside fits = no_components b l (InCapture ∷ path) refl fits.1
  no_component (For t lp b o e) l path inside fits =
      both_empty (names b).components (else_names o).components (no_components b l (InFor ∷ path) refl fits.1) (no_else_components o l (InForElse ∷ path) refl fits.2)
  no_component (If t c b bs e) l path inside fits =
      both_empty (names b).components (branch_names bs).components (no_components b l (InIf ∷ path) refl fits.1) (no_branch_components bs l (InIf ∷ path) refl fits.2)

  pub no_branch_components : (bs : Branches) (l : Limits) (path : Path) → is_outermost path ≡ false → FitsBranches l path bs → (branch_names bs).components ≡ []
  no_branch_components (Elif t c b bs) l path inside fits =
      both_empty (names b).components (branch_names bs).components (no_components b l path inside fits.1) (no_branch_components bs l path inside fits.2)
  no_branch_components (Last o) l path inside fits = no_else_components o l path inside fits

  pub no_else_components : (o : Else) (l : Limits) (path : Path) → is_outermost path ≡ false → FitsElse l path o → (else_names o).components ≡ []
  no_else_components NoElse l path inside fits = refl
  no_else_components (Otherwise t b) l path inside fits = no_components b l path inside fits

pub blocks-append : (xs ys : List Stmt) → blocks (nodes_of (xs ++ ys)) ≡ blocks (nodes_of xs) ++ blocks (nodes_of ys)
blocks-append [] ys = refl
blocks-append (x ∷ xs) ys = ap (λ v. stmt_blocks x ++ v) (blocks-append xs ys) ∙ sym (append_assoc (stmt_blocks x) (blocks (nodes_of xs)) (blocks (nodes_of ys)))

plain_blocks : (e : Expr) → has_body e ≡ false → stmt_blocks (tree.Shown e) ≡ []
plain_blocks (tree.ComponentCall name es body false span) h = cc
plain_blocks e h = refl

text_blocks : (text : List ℕ) → blocks (nodes_of (added_nodes (text_adds text))) ≡ []
text_blocks [] = refl
text_blocks (b ∷ bs) = refl

both_same : {A : Type 0} {a b c d : List A} → a ≡ b → c ≡ d → a ++ c ≡ b ++ d
both_same e k = λ i. e i ++ k i

-- the blocks of the tree are those of the template
mutual
  pub same_blocks : (b : Body) (l : Limits) (path : Path) (f : Bool) → Fits l path b → blocks (nodes_of (output f b)) ≡ (names b).blocks
  same_blocks Done l path f fits = refl
  same_blocks (Then i b) l path f fits =
      blocks-append (added_nodes (added_by f i)) (output f b) ∙ both_same (same_item_blocks i l path f fits.0) (same_blocks b l path f fits.1)

  same_item_blocks : (i : Item) (l : Limits) (path : Path) (f : Bool) → FitsItem l path i → blocks (nodes_of (added_nodes (added_by f i))) ≡ (item_names i).blocks
  same_item_blocks (Single (Text text span)) l path f fits = text_blocks text
  same_item_blocks (Single (Shown a e b)) l path f fits = append-nil (stmt_blocks (tree.Shown (expression_output f e))) ∙ plain_blocks (expression_output f e) (expression_plain f e)
  same_item_blocks (Single (Set g t n s e)) l path f fits = refl
  same_item_blocks (Single (Include t q span)) l path f fits = refl
  same_item_blocks (Single (Extends t q span)) l path f fits = refl
  same_item_blocks (Single (Break t)) l path f fits = refl
  same_item_blocks (Single (Continue t)) l path f fits = refl
  same_item_blocks (Block t n b e m) l path f fits = append-nil (n.text ∷ blocks (nodes_of (output f b))) ∙ ap (λ v. n.text ∷ v) (same_blocks b l (InBlock ∷ path) f fits.2)
  same_item_blocks (Define h b) l path f fits = sym (no_blocks b l (InComponent ∷ path) refl fits.2)
  same_item_blocks (Capturing (SetBody g t n fs e) b) l path f fits = append-nil (blocks (nodes_of (output f b))) ∙ same_blocks b l (InCapture ∷ path) f fits.1
  same_item_blocks (Capturing (Section t g fs e) b) l path f fits = append-nil (blocks (nodes_of (output f b))) ∙ same_blocks b l (InCapture ∷ path) f fits.1
  same_item_blocks (Capturing (CallBody t n a last e m end) b) l path f fits = append-nil (blocks (nodes_of (output f b))) ∙ same_blocks b l (InCapture ∷ path) f fits.1
  same_item_blocks (For t lp b o e) l path f fits =
      append-nil (blocks (nodes_of (output true b)) ++ blocks (nodes_of (else_output f o))) ∙ both_same (same_blocks b l (InFor ∷ path) true fits.1) (same_else_blocks o l (InForElse ∷ path) f fits.2)
  same_item_blocks (If t c b bs e) l path f fits =
      append-nil (blocks (nodes_of (output f b)) ++ blocks (nodes_of (branch_output f bs))) ∙ both_same (same_blocks b l (InIf ∷ path) f fits.1) (same_branch_blocks bs l (InIf ∷ path) f fits.2)

  same_branch_blocks : (bs : Branches) (l : Limits) (path : Path) (f : Bool) → FitsBranches l path bs → blocks (nodes_of (branch_output f bs)) ≡ (branch_names bs).blocks
  same_branch_blocks (Elif t c b bs) l path f fits =
      append-nil (blocks (nodes_of (output f b)) ++ blocks (nodes_of (branch_output f bs))) ∙ both_same (same_blocks b l path f fits.1) (same_branch_blocks bs l path f fits.2)
  same_branch_blocks (Last o) l path f fits = same_else_blocks o l path f fits

  same_else_blocks : (o : Else) (l : Limits) (path : Path) (f : Bool) → FitsElse l path o → blocks (nodes_of (else_output f o)) ≡ (else_names o).blocks
  same_else_blocks NoElse l path f fits = refl
  same_else_blocks (Otherwise t b) l path f fits = same_blocks b l path f fits

-- its turns and ends of loops are where they may
stand-append : (f : Bool) (xs ys : List Stmt) → BreaksAreInside f (nodes_of xs) → BreaksAreInside f (nodes_of ys) → BreaksAreInside f (nodes_of (xs ++ ys))
stand-append f [] ys a b = b
stand-append f (x ∷ xs) ys a b = (a.0, stand-append f xs ys a.1 b)

plain_sound : (f : Bool) (e : Expr) → has_body e ≡ false → BreakIsInside f (tree.Shown e)
plain_sound f (tree.ComponentCall name es body false span) h = cc
plain_sound f e h = tt

text_sound : (f : Bool) (text : List ℕ) → BreaksAreInside f (nodes_of (added_nodes (text_adds text)))
text_sound f [] = tt
text_sound f (b ∷ bs) = (tt, tt)

mutual
  breaks_sound : (b : Body) (l : Limits) (path : Path) (f : Bool) → Fits l path b → BreaksAreInside (may_break path) (nodes_of (output f b))
  breaks_sound Done l path f fits = tt
  breaks_sound (Then i b) l path f fits =
      stand-append (may_break path) (added_nodes (added_by f i)) (output f b) (item_sound i l path f fits.0) (breaks_sound b l path f fits.1)

  item_sound : (i : Item) (l : Limits) (path : Path) (f : Bool) → FitsItem l path i → BreaksAreInside (may_break path) (nodes_of (added_nodes (added_by f i)))
  item_sound (Single (Text text span)) l path f fits = text_sound (may_break path) text
  item_sound (Single (Shown a e b)) l path f fits = (plain_sound (may_break path) (expression_output f e) (expression_plain f e), tt)
  item_sound (Single (Set g t n s e)) l path f fits = (tt, tt)
  item_sound (Single (Include t q span)) l path f fits = (tt, tt)
  item_sound (Single (Extends t q span)) l path f fits = tt
  item_sound (Single (Break t)) l path f fits = (fits, tt)
  item_sound (Single (Continue t)) l path f fits = (fits, tt)
  item_sound (Block t n b e m) l path f fits = (breaks_sound b l (InBlock ∷ path) f fits.2, tt)
  item_sound (Define h b) l path f fits = tt
  item_sound (Capturing (SetBody g t n fs e) b) l path f fits = (breaks_sound b l (InCapture ∷ path) f fits.1, tt)
  item_sound (Capturing (Section t g fs e) b) l path f fits = (breaks_sound b l (InCapture ∷ path) f fits.1, tt)
  item_sound (Capturing (CallBody t n a last e m end) b) l path f fits = (breaks_sound b l (InCapture ∷ path) f fits.1, tt)
  item_sound (For t lp b o e) l path f fits = ((breaks_sound b l (InFor ∷ path) true fits.1, else_sound o l (InForElse ∷ path) f fits.2), tt)
  item_sound (If t c b bs e) l path f fits = ((breaks_sound b l (InIf ∷ path) f fits.1, branches_sound bs l (InIf ∷ path) f fits.2), tt)

  branches_sound : (bs : Branches) (l : Limits) (path : Path) (f : Bool) → FitsBranches l path bs → BreaksAreInside (may_break path) (nodes_of (branch_output f bs))
  branches_sound (Elif t c b bs) l path f fits = ((breaks_sound b l path f fits.1, branches_sound bs l path f fits.2), tt)
  branches_sound (Last o) l path f fits = else_sound o l path f fits

  else_sound : (o : Else) (l : Limits) (path : Path) (f : Bool) → FitsElse l path o → BreaksAreInside (may_break path) (nodes_of (else_output f o))
  else_sound NoElse l path f fits = tt
  else_sound (Otherwise t b) l path f fits = breaks_sound b l path f fits

-- the components that are defined, at the top level
abbrev definition_name : Definition → List ℕ
definition_name d = d.name

abbrev StandsAlone : Definition → Type 0
StandsAlone d = BreaksAreInside false (nodes_of d.body)

pub text_defines : (text : List ℕ) → definitions_by (text_adds text) ≡ []
text_defines [] = refl
text_defines (b ∷ bs) = refl

item_components : (i : Item) (l : Limits) → FitsItem l [] i → map definition_name (definitions_by (added_by false i)) ≡ (item_names i).components
item_components (Single (Text text span)) l fits = ap (map definition_name) (text_defines text)
item_components (Single (Shown a e b)) l fits = refl
item_components (Single (Set g t n s e)) l fits = refl
item_components (Single (Include t q span)) l fits = refl
item_components (Single (Extends t q span)) l fits = refl
item_components (Single (Break t)) l fits = refl
item_components (Single (Continue t)) l fits = refl
item_components (Block t n b e m) l fits = sym (no_components b l (InBlock ∷ []) refl fits.2)
item_components (Define h b) l fits = ap (λ v. component_text h.name ∷ v) (sym (no_components b l (InComponent ∷ []) refl fits.2))
item_components (Capturing c b) l fits = sym (no_components b l (InCapture ∷ []) refl fits.1)
item_components (For t lp b o e) l fits =
    sym (both_empty (names b).components (else_names o).components (no_components b l (InFor ∷ []) refl fits.1) (no_else_components o l (InForElse ∷ []) refl fits.2))
item_components (If t c b bs e) l fits =
    sym (both_empty (names b).components (branch_names bs).components (no_components b l (InIf ∷ []) refl fits.1) (no_branch_components bs l (InIf ∷ []) refl fits.2))

pub same_components : (b : Body) (l : Limits) → Fits l [] b → map definition_name (definitions_of b) ≡ (names b).components
same_components Done l fits = refl
same_components (Then i b) l fits =
    map-append definition_name (definitions_by (added_by false i)) (definitions_of b) ∙ both_same (item_components i l fits.0) (same_components b l fits.1)

all-append : {A : Type 0} (P : A → Type 0) (xs ys : List A) → AllByRecursion P xs → AllByRecursion P ys → AllByRecursion P (xs ++ ys)
all-append P [] ys a b = b
all-append P (x ∷ xs) ys a b = (a.0, all-append P xs ys a.1 b)

item_stands_alone : (i : Item) (l : Limits) → FitsItem l [] i → AllByRecursion StandsAlone (definitions_by (added_by false i))
item_stands_alone (Single (Text text span)) l fits = subst (AllByRecursion StandsAlone) (sym (text_defines text)) tt
item_stands_alone (Single (Shown a e b)) l fits = tt
item_stands_alone (Single (Set g t n s e)) l fits = tt
item_stands_alone (Single (Include t q span)) l fits = tt
item_stands_alone (Single (Extends t q span)) l fits = tt
item_stands_alone (Single (Break t)) l fits = tt
item_stands_alone (Single (Continue t)) l fits = tt
item_stands_alone (Block t n b e m) l fits = tt
item_stands_alone (Define h b) l fits = (breaks_sound b l (InComponent ∷ []) false fits.2, tt)
item_stands_alone (Capturing c b) l fits = tt
item_stands_alone (For t lp b o e) l fits = tt
item_stands_alone (If t c b bs e) l fits = tt

stand_alone : (b : Body) (l : Limits) → Fits l [] b → AllByRecursion StandsAlone (definitions_of b)
stand_alone Done l fits = tt
stand_alone (Then i b) l fits =
    all-append StandsAlone (definitions_by (added_by false i)) (definitions_of b) (item_stands_alone i l fits.0) (stand_alone b l fits.1)

-- a template that extends another
text_parent : (text : List ℕ) → parent_by (text_adds text) ≡ None
text_parent [] = refl
text_parent (b ∷ bs) = refl

item_parent : (i : Item) → (IsExtends i → ⊥) → parent_by (added_by false i) ≡ None
item_parent (Single (Text text span)) h = text_parent text
item_parent (Single (Shown a e b)) h = refl
item_parent (Single (Set g t n s e)) h = refl
item_parent (Single (Include t q span)) h = refl
item_parent (Single (Extends t q span)) h = absurd (h tt)
item_parent (Single (Break t)) h = refl
item_parent (Single (Continue t)) h = refl
item_parent (Block t n b e m) h = refl
item_parent (Define head b) h = refl
item_parent (Capturing c b) h = refl
item_parent (For t lp b o e) h = refl
item_parent (If t c b bs e) h = refl

no_parent : (b : Body) → Each (λ i. IsExtends i → ⊥) b → parent_of b ≡ None
no_parent Done h = refl
no_parent (Then i b) h = ap (later (parent_by (added_by false i))) (no_parent b h.1) ∙ item_parent i h.0

text_kept : (text : List ℕ) → is_blank text ≡ true → AllByRecursion IsKeptNode (added_nodes (text_adds text))
text_kept [] h = tt
text_kept (b ∷ bs) h = (h, tt)

silent_kept : (i : Item) → is_silent i ≡ true → AllByRecursion IsKeptNode (added_nodes (added_by false i))
silent_kept (Single (Text text span)) h = text_kept text h
silent_kept (Define head b) h = tt
silent_kept _ h = cc

item_kept : (i : Item) → is_kept i ≡ true → AllByRecursion IsKeptNode (added_nodes (added_by false i))
item_kept (Block t n b e m) h = (tt, tt)
item_kept (Single p) h = silent_kept (Single p) h
item_kept (Define head b) h = tt
item_kept _ h = cc

all_silent : (b : Body) → Each (λ i. is_silent i ≡ true) b → AllByRecursion IsKeptNode (output false b)
all_silent Done h = tt
all_silent (Then i b) h = all-append IsKeptNode (added_nodes (added_by false i)) (output false b) (silent_kept i h.0) (all_silent b h.1)

all_kept : (b : Body) → Each (λ i. is_kept i ≡ true) b → AllByRecursion IsKeptNode (output false b)
all_kept Done h = tt
all_kept (Then i b) h = all-append IsKeptNode (added_nodes (added_by false i)) (output false b) (item_kept i h.0) (all_kept b h.1)

child_kept : (b : Body) → TopLevel b → (name : List ℕ) → parent_of b ≡ Some name → AllByRecursion IsKeptNode (output false b)
child_kept b top name parent =
    ⊎_elim (λ (plain : Each (λ i. IsExtends i → ⊥) b). absurd (none_some (sym (no_parent b plain) ∙ parent)))
    (λ (c : Child b).
    let extending = Then (Single (Extends c.tag c.parent c.span)) c.after in
    subst (AllByRecursion IsKeptNode) (sym (ap (output false) c.is ∙ output-join false c.before extending))
    (all-append IsKeptNode (output false c.before) (output false extending) (all_silent c.before c.silent) (all_kept c.after c.kept)))
    top

pub template_right : (l : Limits) (ts : Items) (b : Body) → IsTemplate l ts b → IsRight (output_of b)
template_right l ts b is = record {
  block_names = subst AreDistinct (sym (same_blocks b l [] false is.fits)) is.distinct.0;
  component_names = subst AreDistinct (sym (same_components b l is.fits)) is.distinct.1;
  breaks = breaks_sound b l [] false is.fits;
  breaks_inside = stand_alone b l is.fits;
  child = child_kept b is.top;
}
