-- The laws of what is read, of the reading that says where it stops.
use Rattle.std.proofs.Common.{◌≡◌, Bool, Option, Some, None, sym, ap, ◌∙◌, inl, inr}
use Rattle.std.proofs.lemmas.Option.{same_Some}
use Rattle.tera_base.specs.Values as values
use Rattle.tera_base.specs.declared.errors.Error.{Error}
use Rattle.tera_lexer.specs.grammar.Tokens.{Items, Failed, Token}
use Rattle.tera_grammar.specs.Limits.{Limits}
use Rattle.tera_grammar.specs.Reads.{Read, found, stopped, forget, StopsAt, Fails}
use Rattle.tera_grammar.specs.expressions.Marks.{LeftParen, Dot}
use Rattle.tera_grammar.specs.expressions.Concrete.{Tree, Attributes, yield, attributes_yield}
use Rattle.tera_grammar.specs.expressions.Companions.{Opened, Filtering, Path, kwargs_yield, AreKwargs, filter_yield, EachArgs, path_yield, array_yield, IsArray, ArrayWithin, map_yield, IsMap}
use Rattle.tera_grammar.specs.expressions.Conditions.{IsExpression, AreArgs, AreAttributes}
use Rattle.tera_grammar.specs.expressions.Measures.{Within, EachRow, EachAttribute}
use Rattle.tera_grammar.specs.expressions.Reading.Whole.{expression_of, kwargs_of, filter_of, all_attributes, path_of, literal_array_of, literal_map_of}
use Rattle.tera_grammar.specs.statements.Grammar.{Body}
use Rattle.tera_grammar.specs.statements.Top.{IsTemplate}
use Rattle.tera_grammar.specs.statements.Reading.{template}
use Rattle.tera_grammar.proofs.plain.expressions.Reading.Front.{takes as plain_takes}
use Rattle.tera_grammar.proofs.expressions.Fronts.{Ends}
use Rattle.tera_grammar.proofs.expressions.ReadRows.{NoAttribute}
use Rattle.tera_grammar.proofs.expressions.Wholes as wholes
use Rattle.tera_grammar.proofs.statements.Tops as tops
use Rattle.tera_grammar.proofs.stops.ForgetParts.{expression_forget, filter_forget, all_attributes_forget, kwargs_forget, path_forget, literal_array_forget, literal_map_forget}
use Rattle.tera_grammar.proofs.stops.ForgetTags.{template_forget, each_read}

pub found_of : {A : Type 0} (o : Read A) (x : A) → forget o ≡ Some x → o ≡ found x
found_of (found y) x is = ap found (same_Some _ _ is)
found_of (stopped z) x is = cc

pub some_of : {A : Type 0} (o : Read A) (q : Option A) → forget o ≡ q → (x : A) → o ≡ found x → q ≡ Some x
some_of o q same x is = sym same ∙ ap forget is

-- where a part stopped, the whole did
pub stops_as : {A B : Type 0} (part : Read A) (whole : Read B) (left : Items) → ((z : Items) → part ≡ stopped z → whole ≡ stopped z) → StopsAt part left → StopsAt whole left
stops_as part whole left same (inl here) = inl (same left here)
stops_as part whole left same (inr (inl (t, s, taken))) = inr (inl (t, s, same (Token t s left) taken))
stops_as part whole left same (inr (inr (text, s, failed, ended))) = inr (inr (text, s, same (Failed text s) failed, ended))

pub fails_as : {A B : Type 0} (part : Read A) (whole : Read B) (left : Items) (e : Error) → ((z : Items) → part ≡ stopped z → whole ≡ stopped z) → Fails part left e → Fails whole left e
fails_as part whole left e same (inl memory) = inl memory
fails_as part whole left e same (inr stops) = inr (stops_as part whole left same stops)

pub expression_found : (limits : Limits) (l : Bool) (items rest : Items) (t : Tree) → expression_of limits l items ≡ found (t, rest)
    → (items ≡ yield t rest) × IsExpression l t × Within limits t
expression_found limits l items rest t h = wholes.expression_found limits l items rest t (some_of _ _ (expression_forget limits l items) _ h)

pub expression_read : (limits : Limits) (l : Bool) (t : Tree) (r : Items) → IsExpression l t → Within limits t → Ends r
    → expression_of limits l (yield t r) ≡ found (t, r)
expression_read limits l t r is within ends = found_of _ _ (expression_forget limits l (yield t r) ∙ wholes.expression_read limits l t r is within ends)

pub kwargs_found : (limits : Limits) (l : Bool) (items rest : Items) (x : Opened) → kwargs_of limits l items ≡ found (x, rest)
    → (items ≡ kwargs_yield x rest) × AreKwargs l x × EachRow (Within limits) x.row
kwargs_found limits l items rest x h = wholes.kwargs_found limits l items rest x (some_of _ _ (kwargs_forget limits l items) _ h)

pub kwargs_read : (limits : Limits) (l : Bool) (x : Opened) (r : Items) → AreKwargs l x → EachRow (Within limits) x.row
    → kwargs_of limits l (kwargs_yield x r) ≡ found (x, r)
kwargs_read limits l x r is fits = found_of _ _ (kwargs_forget limits l (kwargs_yield x r) ∙ wholes.kwargs_read limits l x r is fits)

pub filter_found : (limits : Limits) (l : Bool) (items rest : Items) (x : Filtering) → filter_of limits l items ≡ found (x, rest)
    → (items ≡ filter_yield x rest) × AreArgs l x.args × EachArgs (Within limits) x.args
filter_found limits l items rest x h = wholes.filter_found limits l items rest x (some_of _ _ (filter_forget limits l items) _ h)

pub filter_read_whole : (limits : Limits) (l : Bool) (x : Filtering) (r : Items) → AreArgs l x.args
    → EachArgs (Within limits) x.args → plain_takes LeftParen r ≡ None
    → filter_of limits l (filter_yield x r) ≡ found (x, r)
filter_read_whole limits l x r is fits free_of_call = found_of _ _ (filter_forget limits l (filter_yield x r) ∙ wholes.filter_read_whole limits l x r is fits free_of_call)

pub attributes_found_whole : (limits : Limits) (l : Bool) (items rest : Items) (x : Attributes)
    → all_attributes limits l items ≡ found (x, rest)
    → (items ≡ attributes_yield x rest) × AreAttributes l x × EachAttribute (Within limits) x
attributes_found_whole limits l items rest x h = wholes.attributes_found_whole limits l items rest x (some_of _ _ (all_attributes_forget limits l items) _ h)

pub attributes_read_whole : (limits : Limits) (l : Bool) (x : Attributes) (r : Items) → AreAttributes l x
    → EachAttribute (Within limits) x → NoAttribute r
    → all_attributes limits l (attributes_yield x r) ≡ found (x, r)
attributes_read_whole limits l x r is fits none = found_of _ _ (all_attributes_forget limits l (attributes_yield x r) ∙ wholes.attributes_read_whole limits l x r is fits none)

pub path_found : (items rest : Items) (x : Path) → path_of items ≡ found (x, rest) → items ≡ path_yield x rest
path_found items rest x h = wholes.path_found items rest x (some_of _ _ (path_forget items) _ h)

pub path_read : (x : Path) (r : Items) → plain_takes Dot r ≡ None → path_of (path_yield x r) ≡ found (x, r)
path_read x r none = found_of _ _ (path_forget (path_yield x r) ∙ wholes.path_read x r none)

pub literal_array_found : (limits : Limits) (items rest : Items) (x : Opened) (vs : values.Vals)
    → literal_array_of limits items ≡ found ((x, vs), rest)
    → (items ≡ array_yield x rest) × IsArray x vs × ArrayWithin limits x
literal_array_found limits items rest x vs h = wholes.literal_array_found limits items rest x vs (some_of _ _ (literal_array_forget limits items) _ h)

pub literal_array_read : (limits : Limits) (x : Opened) (vs : values.Vals) (r : Items) → IsArray x vs → ArrayWithin limits x
    → literal_array_of limits (array_yield x r) ≡ found ((x, vs), r)
literal_array_read limits x vs r is fits = found_of _ _ (literal_array_forget limits (array_yield x r) ∙ wholes.literal_array_read limits x vs r is fits)

pub literal_map_found : (limits : Limits) (items rest : Items) (x : Opened) (ps : values.Pairs)
    → literal_map_of limits items ≡ found ((x, ps), rest)
    → (items ≡ map_yield x rest) × IsMap x ps × EachRow (Within limits) x.row
literal_map_found limits items rest x ps h = wholes.literal_map_found limits items rest x ps (some_of _ _ (literal_map_forget limits items) _ h)

pub literal_map_read : (limits : Limits) (x : Opened) (ps : values.Pairs) (r : Items) → IsMap x ps → EachRow (Within limits) x.row
    → literal_map_of limits (map_yield x r) ≡ found ((x, ps), r)
literal_map_read limits x ps r is fits = found_of _ _ (literal_map_forget limits (map_yield x r) ∙ wholes.literal_map_read limits x ps r is fits)

pub template_sound : (l : Limits) (ts : Items) (b : Body) → template l ts ≡ found b → IsTemplate l ts b
template_sound l ts b is = tops.template_sound l ts b (some_of _ _ (template_forget l ts) b is)

pub template_complete : (l : Limits) (ts : Items) (b : Body) → IsTemplate l ts b → template l ts ≡ found b
template_complete l ts b is = each_read l (tops.template_complete l) ts b is
