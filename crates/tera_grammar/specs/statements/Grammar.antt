-- Templates as they are written, their tokens, what may be where, the names that they define and how deep their bodies
-- are. Variable letters: t, e tags at the start and the end, b a body, n a name, l the limits.
use Rattle.std.specs.Prelude.{◌≡◌, ℕ, suc, max, Bool, true, false, ◌&&◌, List, [], ◌∷◌, codes, Option, Some, None}
use Rattle.tera_base.specs.declared.utils.Span.{Span}
use Rattle.tera_lexer.specs.grammar.Tokens as toks
use Rattle.tera_lexer.specs.grammar.Tokens.{Items, Token}
use Rattle.tera_lexer.specs.declared.lexer.delimiters.Kind.TheVariants as kind
use Rattle.tera_grammar.specs.expressions.Concrete.{Quote, quote_token}
use Rattle.tera_grammar.specs.expressions.Marks.{mark, Assign}
use Rattle.tera_grammar.specs.Words.{is_reserved}
use Rattle.tera_grammar.specs.statements.Names.{agrees, Names, no_names, block_named, component_named, ◌and_then◌}
use Rattle.tera_grammar.specs.statements.Tags.{Edge, Name, name_yield, if_any, Tag, keyword, set_word, finish}
use Rattle.tera_grammar.specs.statements.Expressions.{Limits, Expression, IsExpression, expression_yield, component_text}
use Rattle.tera_grammar.specs.statements.Components.{Head, head_yield, ending_yield, FitsHead}
use Rattle.tera_grammar.specs.statements.Heads.{Loop, loop_yield, FitsLoop, Capture, capture_yield, capture_end, FitsCapture}

-- an item with no body inside: a text, a raw piece or a comment; an expression between its markers; a value
-- that is set, for the whole template or not; a template that is included, and one that is extended; the end
-- of a loop, and its next turn
pub data Plain : Type 0 where
  Text : List ℕ → Span → Plain
  Shown : Edge → Expression → Edge → Plain
  Set : Bool → Tag → Name → Span → Expression → Plain
  Include : Tag → Quote → Span → Plain
  Extends : Tag → Quote → Span → Plain
  Break : Tag → Plain
  Continue : Tag → Plain

-- A body is a list of items; an `if` has its branches in one list.
mutual
  pub data Body : Type 0 where
    Done : Body
    Then : Item → Body → Body

  -- an item without a body; a block, with the name at its end, if any; the definition of a component; a body
  -- that is taken as a value; a loop; a condition
  pub data Item : Type 0 where
    Single : Plain → Item
    Block : Tag → Name → Body → Tag → Option Name → Item
    Define : Head → Body → Item
    Capturing : Capture → Body → Item
    For : Tag → Loop → Body → Else → Tag → Item
    If : Tag → Expression → Body → Branches → Tag → Item

  pub data Branches : Type 0 where
    Elif : Tag → Expression → Body → Branches → Branches
    Last : Else → Branches

  pub data Else : Type 0 where
    NoElse : Else
    Otherwise : Tag → Body → Else

abbrev pub plain_yield : Plain → Items → Items
plain_yield (Text text span) items = Token (toks.Content text) span items
plain_yield (Shown a e b) items =
    Token (toks.Start kind.Variable a.dash) a.span (expression_yield e (Token (toks.Finish kind.Variable b.dash) b.span items))
plain_yield (Set global t n sign e) items =
    keyword (set_word global) t (name_yield n (mark Assign sign (expression_yield e (finish t items))))
plain_yield (Include t q span) items = keyword (codes "include") t (Token (quote_token q) span (finish t items))
plain_yield (Extends t q span) items = keyword (codes "extends") t (Token (quote_token q) span (finish t items))
plain_yield (Break t) items = keyword (codes "break") t (finish t items)
plain_yield (Continue t) items = keyword (codes "continue") t (finish t items)

-- The tokens of a template, in front of others.
abbrev mutual
  pub yield : Body → Items → Items
  yield Done items = items
  yield (Then i b) items = item_yield i (yield b items)

  pub item_yield : Item → Items → Items
  item_yield (Single p) items = plain_yield p items
  item_yield (Block t n b e m) items =
      keyword (codes "block") t (name_yield n (finish t (yield b (keyword (codes "endblock") e (if_any name_yield m (finish e items))))))
  item_yield (Define h b) items = head_yield h (yield b (ending_yield h items))
  item_yield (Capturing c b) items = capture_yield c (yield b (capture_end c items))
  item_yield (For t lp b o e) items =
      keyword (codes "for") t (loop_yield lp (finish t (yield b (else_yield o (keyword (codes "endfor") e (finish e items))))))
  item_yield (If t c b bs e) items =
      keyword (codes "if") t (expression_yield c (finish t (yield b (branches_yield bs (keyword (codes "endif") e (finish e items))))))

  pub branches_yield : Branches → Items → Items
  branches_yield (Elif t c b bs) items = keyword (codes "elif") t (expression_yield c (finish t (yield b (branches_yield bs items))))
  branches_yield (Last o) items = else_yield o items

  pub else_yield : Else → Items → Items
  else_yield NoElse items = items
  else_yield (Otherwise t b) items = keyword (codes "else") t (finish t (yield b items))

-- what is around a statement: the body of a loop, and its `else`; a block; a branch of an `if`; a component's
-- definition; a body that is taken as a value
pub data Context : Type 0 where
  InFor : Context
  InForElse : Context
  InBlock : Context
  InIf : Context
  InComponent : Context
  InCapture : Context

-- all that is around a statement, the innermost first
abbrev pub Path : Type 0
Path = List Context

-- whether a block may be inside
abbrev pub holds_blocks : Context → Bool
holds_blocks InFor = false
holds_blocks InComponent = false
holds_blocks c = true

-- every context around is one in which a block may be
abbrev pub may_block : Path → Bool
may_block [] = true
may_block (c ∷ path) = holds_blocks c && may_block path

-- the body of a loop is around, with no capture between: there `break` and `continue` are
abbrev pub may_break : Path → Bool
may_break [] = false
may_break (InFor ∷ path) = true
may_break (InCapture ∷ path) = false
may_break (c ∷ path) = may_break path

-- the body of a loop is around: there `loop` has fields
abbrev pub in_loop : Path → Bool
in_loop [] = false
in_loop (InFor ∷ path) = true
in_loop (c ∷ path) = in_loop path

-- nothing is around: there `extends` and definitions of components are
abbrev pub is_outermost : Path → Bool
is_outermost [] = true
is_outermost (c ∷ path) = false

abbrev pub text_if_any : Option Name → Option (List ℕ)
text_if_any None = None
text_if_any (Some n) = Some n.text

abbrev pub FitsPlain : Limits → Path → Plain → Type 0
FitsPlain l path (Shown a e b) = IsExpression l (in_loop path) e
FitsPlain l path (Set global t n sign e) = (is_reserved n.text ≡ false) × IsExpression l (in_loop path) e
FitsPlain l path (Extends t q span) = is_outermost path ≡ true
FitsPlain l path (Break t) = may_break path ≡ true
FitsPlain l path (Continue t) = may_break path ≡ true
FitsPlain l path p = Unit {0}

-- Each statement is where its path allows it, its parts are what they have to be, and closing names agree.
abbrev mutual
  pub Fits : Limits → Path → Body → Type 0
  Fits l path Done = Unit {0}
  Fits l path (Then i b) = FitsItem l path i × Fits l path b

  pub FitsItem : Limits → Path → Item → Type 0
  FitsItem l path (Single p) = FitsPlain l path p
  FitsItem l path (Block t n b e m) = (may_block path ≡ true) × (agrees n.text (text_if_any m) ≡ true) × Fits l (InBlock ∷ path) b
  FitsItem l path (Define h b) = (is_outermost path ≡ true) × FitsHead l h × Fits l (InComponent ∷ path) b
  FitsItem l path (Capturing c b) = FitsCapture l (in_loop path) c × Fits l (InCapture ∷ path) b
  FitsItem l path (For t lp b o e) = FitsLoop l lp × Fits l (InFor ∷ path) b × FitsElse l (InForElse ∷ path) o
  FitsItem l path (If t c b bs e) = IsExpression l (in_loop path) c × Fits l (InIf ∷ path) b × FitsBranches l (InIf ∷ path) bs

  pub FitsBranches : Limits → Path → Branches → Type 0
  FitsBranches l path (Elif t c b bs) = IsExpression l (in_loop path) c × Fits l path b × FitsBranches l path bs
  FitsBranches l path (Last o) = FitsElse l path o

  pub FitsElse : Limits → Path → Else → Type 0
  FitsElse l path NoElse = Unit {0}
  FitsElse l path (Otherwise t b) = Fits l path b

-- The names of blocks and of components, in the order of the source.
abbrev mutual
  pub names : Body → Names
  names Done = no_names
  names (Then i b) = item_names i and_then names b

  pub item_names : Item → Names
  item_names (Single p) = no_names
  item_names (Block t n b e m) = block_named n.text and_then names b
  item_names (Define h b) = component_named (component_text h.name) and_then names b
  item_names (Capturing c b) = names b
  item_names (For t lp b o e) = names b and_then else_names o
  item_names (If t c b bs e) = names b and_then branch_names bs

  pub branch_names : Branches → Names
  branch_names (Elif t c b bs) = names b and_then branch_names bs
  branch_names (Last o) = else_names o

  pub else_names : Else → Names
  else_names NoElse = no_names
  else_names (Otherwise t b) = names b

-- The greatest height of a body directly inside, and 0 where there is none; the branches of one statement lie on one
-- level.
abbrev mutual
  pub inner : Body → ℕ
  inner Done = 0
  inner (Then i b) = max (item_height i) (inner b)

  pub item_height : Item → ℕ
  item_height (Single p) = 0
  item_height (Block t n b e m) = suc (inner b)
  item_height (Define h b) = suc (inner b)
  item_height (Capturing c b) = suc (inner b)
  item_height (For t lp b o e) = max (suc (inner b)) (else_height o)
  item_height (If t c b bs e) = max (suc (inner b)) (branch_height bs)

  pub branch_height : Branches → ℕ
  branch_height (Elif t c b bs) = max (suc (inner b)) (branch_height bs)
  branch_height (Last o) = else_height o

  pub else_height : Else → ℕ
  else_height NoElse = 0
  else_height (Otherwise t b) = suc (inner b)

abbrev pub height : Body → ℕ
height b = suc (inner b)
