-- The attributes of calls of components.
use Rattle.std.specs.Prelude.{◌≡◌, Bool, Option, Some, None, Result, Ok, Err, Vec}
use Rattle.std.specs.declared.alloc.Global.{Global}
use Rattle.tera_base.specs.Values.{TextKey}
use Rattle.tera_base.specs.ValueView.{key_view}
use Rattle.tera_base.specs.declared.errors.Error.{Error}
use Rattle.tera_base.specs.declared.utils.Span.{Span}
use Rattle.tera_lexer.specs.code.Cursors.{Position}
use Rattle.tera_ast.specs.Tree as tree
use Rattle.tera_ast.specs.Tree.{Expr}
use Rattle.tera_ast.specs.View.{entries_view, entry_view, expression_view}
use Rattle.tera_ast.specs.declared.ast.Expression.{Expression}
use Rattle.tera_ast.specs.declared.ast.MapEntryOf.{MapEntryOf}
use Rattle.tera_ast.specs.declared.ast.MapEntryOf.TheVariants as entries
use Rattle.tera_grammar.specs.Reads.{found, ◌>>=◌}
use Rattle.tera_grammar.specs.expressions.Marks.{RightBrace}
use Rattle.tera_grammar.specs.expressions.Concrete.{Name, Tree, Attributes, no_attributes}
use Rattle.tera_grammar.specs.expressions.Output.{output, attributes_output}
use Rattle.tera_grammar.specs.expressions.Reading.Front.{Place, Reads, skip, quote_at}
use Rattle.tera_grammar.specs.expressions.Reading.Rooms.{Room}
use Rattle.tera_grammar.specs.expressions.Reading.Bracketed.{Reader, value_at}
use Rattle.tera_expr_reader.specs.Chains.{Adds, Lacks}
use Rattle.tera_expect.specs.Taking.{Took}

-- an expression and the brace after it
abbrev pub braced_of : Reader → Room → Place → Reads (Tree × Span)
braced_of f w p = f w 0 p >>= λ e. skip RightBrace e.1 >>= λ c. found ((e.0, c.0), c.1)

abbrev pub IsBraced : Bool → Expression → Tree × Span → Type 0
IsBraced l e t = expression_view e ≡ output l t.0

-- the value of an attribute, whatever its name
abbrev pub IsValue : Bool → Expression → (Name → Span → Attributes → Attributes) → Type 0
IsValue l e put = (n : Name) (s : Span) (r : Attributes) → attributes_output l (put n s r) ≡ tree.Entry (TextKey n.text) (expression_view e) (attributes_output l r)

abbrev pub ValueGives : Bool → Result Expression Error → Place → Reader → Room → Place → Type 0
ValueGives l (Ok e) q f w p =
    (put : Name → Span → Attributes → Attributes) × ((n : Name) (s : Span) → Adds (λ more. value_at more f w n s p (quote_at p)) (put n s) q) × IsValue l e put
ValueGives l (Err e) q f w p = (n : Name) (s : Span) → Lacks (λ more. value_at more f w n s p (quote_at p)) q.tokens e

-- an attribute in front of others
abbrev pub entry_onto : MapEntryOf Expr → tree.Entries → tree.Entries
entry_onto (entries.KeyValue k e) es = tree.Entry (key_view k) e es
entry_onto (entries.Spread e) es = tree.SpreadEntry e es

abbrev pub IsAttribute : Bool → MapEntryOf Expression → (Attributes → Attributes) → Type 0
IsAttribute l x put = (r : Attributes) → attributes_output l (put r) ≡ entry_onto (entry_view x) (attributes_output l r)

abbrev pub AttributeGives : Bool → Result (MapEntryOf Expression) Error → Place → ((Place → Reads Attributes) → Reads Attributes) → Type 0
AttributeGives l (Ok x) q whole = (put : Attributes → Attributes) × Adds whole put q × IsAttribute l x put
AttributeGives l (Err e) q whole = Lacks whole q.tokens e

-- an attribute, or none
abbrev pub MaybeAttribute : Bool → Option (MapEntryOf Expression) → Place → Place → ((Place → Reads Attributes) → Reads Attributes) → Type 0
MaybeAttribute l None p q whole = ((more : Place → Reads Attributes) → whole more ≡ found (no_attributes, q)) × (q ≡ p)
MaybeAttribute l (Some x) p q whole = (put : Attributes → Attributes) × Adds whole put q × IsAttribute l x put

abbrev pub MaybeGives : Bool → Result (Option (MapEntryOf Expression)) Error → Place → Place → ((Place → Reads Attributes) → Reads Attributes) → Type 0
MaybeGives l (Ok x) p q whole = MaybeAttribute l x p q whole
MaybeGives l (Err e) p q whole = Lacks whole q.tokens e

-- nothing was taken, or an attribute
abbrev pub MaybeTook : Position → Position → Option (MapEntryOf Expression) → Type 0
MaybeTook old new None = new ≡ old
MaybeTook old new (Some x) = Took old new

-- attributes that are read
abbrev pub ListsAttributes : Bool → Vec (MapEntryOf Expression) Global → Attributes → Type 0
ListsAttributes l v r = entries_view v.items ≡ attributes_output l r
