-- An outline of a message says how it is answered.
use Rattle.std.proofs.Common.{◌≡◌, ◌⊎◌, inl, inr, ℕ, List, [], ◌∷◌, length, Bool, true, false, ◌||◌, bytes_eq, cond, if◌then◌else◌, codes, Option, None, Some, is_some, option_map, option_and_then, refl, sym, ap, ◌∙◌, lit<}
use Rattle.json.specs.Find.{get_member, later_or}
use Rattle.json.specs.Json.{Json, null, boolean, number, string, array, object, Items, Members, no_members, member, items, members, value, parse_map, if_last, max_depth}
use Rattle.json.specs.Reads.{token_of, Yields}
use Rattle.json.specs.Token.{Token}
use Rattle.json.specs.declared.token.Token as rust
use Rattle.json.specs.declared.token.Token.TheVariants.{String, Number, Bool as Truth, Null}
use Rattle.std.specs.Borrow.{Bor}
use Rattle.json.proofs.Grammar.{value_is, value-begin_array, value-begin_object}
use Rattle.json_rpc.specs.Ids.{IdVal, NullId}
use Rattle.json_rpc.specs.Messages.{Response, Invalid, Naming, Unnamed, Misnamed, NamedBy, naming, message_by, message_in}
use Rattle.json_rpc.specs.Outline.{answered_id, Kind, NoMethod, OutlineVal, no_outline, answered_with, answered_by, first_token, naming_at, kind_at, noted, outline_after, opens_object, document_at, IsRead}
use Rattle.json_rpc.specs.OutlineRead.{IsOutlined}

-- ---- each part of an outline is that of the last member of its name

abbrev naming_or : Naming → Option Json → Naming
naming_or n None = n
naming_or n (Some j) = naming (Some j)

abbrev kind_of : Json → Kind
kind_of j = kind_at (first_token j)

abbrev kind_or : Kind → Option Json → Kind
kind_or k None = k
kind_or k (Some j) = kind_of j

naming-first : (j : Json) → naming_at (first_token j) ≡ naming (Some j)
naming-first null = refl
naming-first (boolean b) = refl
naming-first (number s) = refl
naming-first (string s) = refl
naming-first (array js) = refl
naming-first (object ms) = refl

naming-step : (g : Option Json) (b : Bool) (n : Naming) (j : Json) →
    naming_or (if b then naming_at (first_token j) else n) g ≡ naming_or n (later_or g (cond b (Some j) None))
naming-step (Some h) b n j = refl
naming-step None true n j = naming-first j
naming-step None false n j = refl

kind-step : (g : Option Json) (b : Bool) (k : Kind) (j : Json) →
    kind_or (if b then kind_of j else k) g ≡ kind_or k (later_or g (cond b (Some j) None))
kind-step (Some h) b k j = refl
kind-step None true k j = refl
kind-step None false k j = refl

given-later : (g : Option Json) (b : Bool) (j : Json) → is_some (later_or g (cond b (Some j) None)) ≡ is_some g || b
given-later (Some h) b j = refl
given-later None true j = refl
given-later None false j = refl

shuffle : (o b c x y : Bool) → (o || (b || c)) || (x || y) ≡ o || ((x || b) || (y || c))
shuffle true b c x y = refl
shuffle false true c true y = refl
shuffle false true c false y = refl
shuffle false false true true y = refl
shuffle false false true false true = refl
shuffle false false true false false = refl
shuffle false false false true y = refl
shuffle false false false false true = refl
shuffle false false false false false = refl

given-step : (g h : Option Json) (o b c : Bool) (j : Json) →
    (o || (b || c)) || (is_some g || is_some h)
    ≡ o || (is_some (later_or g (cond b (Some j) None)) || is_some (later_or h (cond c (Some j) None)))
given-step g h o b c j = shuffle o b c (is_some g) (is_some h) ∙ rw (given-later g b j, given-later h c j) refl

named-after : (o : OutlineVal) (ms : Members) → (outline_after o ms).named ≡ naming_or o.named (get_member (codes "id") ms)
named-after o no_members = refl
named-after o (member k j ms) =
    named-after (noted o k (first_token j)) ms
    ∙ naming-step (get_member (codes "id") ms) (bytes_eq k (codes "id")) o.named j

method-after : (o : OutlineVal) (ms : Members) →
    (outline_after o ms).method ≡ kind_or o.method (get_member (codes "method") ms)
method-after o no_members = refl
method-after o (member k j ms) =
    method-after (noted o k (first_token j)) ms
    ∙ kind-step (get_member (codes "method") ms) (bytes_eq k (codes "method")) o.method j

given-none : (o : Bool) → o ≡ o || (false || false)
given-none true = refl
given-none false = refl

given-after : (o : OutlineVal) (ms : Members) →
    (outline_after o ms).given
    ≡ o.given || (is_some (get_member (codes "result") ms) || is_some (get_member (codes "error") ms))
given-after o no_members = given-none o.given
given-after o (member k j ms) =
    given-after (noted o k (first_token j)) ms
    ∙ given-step (get_member (codes "result") ms) (get_member (codes "error") ms) o.given (bytes_eq k (codes "result")) (bytes_eq k (codes "error")) j

-- ---- and they say how it is answered

outcome-if : (b : Bool) (id : IdVal) → (if b then None else Some id) ≡ answered_id (if b then Response else Invalid id)
outcome-if true id = refl
outcome-if false id = refl

with-kind : (n : Naming) (m p : Option Json) (g : Bool) →
    answered_with (kind_or NoMethod m) n g ≡ answered_id (message_by n m p g)
with-kind Unnamed None p g = refl
with-kind Misnamed None p g = outcome-if g NullId
with-kind (NamedBy id) None p g = outcome-if g id
with-kind n (Some null) p g = refl
with-kind n (Some (boolean b)) p g = refl
with-kind n (Some (number s)) p g = refl
with-kind Unnamed (Some (string s)) p g = refl
with-kind Misnamed (Some (string s)) p g = refl
with-kind (NamedBy id) (Some (string s)) p g = refl
with-kind n (Some (array js)) p g = refl
with-kind n (Some (object ms)) p g = refl

or-unnamed : (m : Option Json) → naming_or Unnamed m ≡ naming m
or-unnamed None = refl
or-unnamed (Some j) = refl

pub outline_answers : (ms : Members) →
    answered_by (outline_after no_outline ms) ≡ answered_id (message_in (Some (object ms)))
outline_answers ms =
    let o = outline_after no_outline ms in
    let given = is_some (get_member (codes "result") ms) || is_some (get_member (codes "error") ms) in
    ap (λ k. answered_with k o.named o.given) (method-after no_outline ms)
    ∙ ap (λ n. answered_with (kind_or NoMethod (get_member (codes "method") ms)) n o.given) (named-after no_outline ms ∙ or-unnamed (get_member (codes "id") ms))
    ∙ ap (λ g. answered_with (kind_or NoMethod (get_member (codes "method") ms)) (naming (get_member (codes "id") ms)) g) (given-after no_outline ms)
    ∙ with-kind (naming (get_member (codes "id") ms)) (get_member (codes "method") ms) (get_member (codes "params") ms) given

-- ---- what tokens are

abbrev AnswersNull : Option Json → Type 0
AnswersNull o = answered_id (message_in o) ≡ Some NullId

null_or_last : (j : Json) (ts : List Token) → AnswersNull (Some j) → AnswersNull (if_last j ts)
null_or_last j [] h = h
null_or_last j (t ∷ ts) h = refl

array_null : (r : Option (Items × List Token)) → AnswersNull (option_and_then (λ p. if_last p.0 p.1) (parse_map array r))
array_null None = refl
array_null (Some p) = null_or_last (array p.0) p.1 refl

abbrev last_of : Option (Json × List Token) → Option Json
last_of r = option_and_then (λ p. if_last p.0 p.1) r

pub null_unless_object : (ts : List Token) → opens_object ts ≡ false → AnswersNull (document_at ts)
null_unless_object [] e = rw (value_is max_depth []) refl
null_unless_object (Token.begin_object ∷ ts) e = cc
null_unless_object (Token.end_object ∷ ts) e = rw (value_is max_depth (Token.end_object ∷ ts)) refl
null_unless_object (Token.begin_array ∷ ts) e =
    rw (value-begin_array max_depth ts (lit< tt)) (array_null (items (value 127) (length ts) ts))
null_unless_object (Token.end_array ∷ ts) e = rw (value_is max_depth (Token.end_array ∷ ts)) refl
null_unless_object (Token.key s ∷ ts) e = rw (value_is max_depth (Token.key s ∷ ts)) refl
null_unless_object (Token.string s ∷ ts) e =
    rw (value_is max_depth (Token.string s ∷ ts)) (null_or_last (string s) ts refl)
null_unless_object (Token.number s ∷ ts) e =
    rw (value_is max_depth (Token.number s ∷ ts)) (null_or_last (number s) ts refl)
null_unless_object (Token.boolean b ∷ ts) e =
    rw (value_is max_depth (Token.boolean b ∷ ts)) (null_or_last (boolean b) ts refl)
null_unless_object (Token.null ∷ ts) e = rw (value_is max_depth (Token.null ∷ ts)) (null_or_last null ts refl)
null_unless_object (Token.bad ∷ ts) e = rw (value_is max_depth (Token.bad ∷ ts)) refl

object_at : (ts : List Token) → document_at (Token.begin_object ∷ ts) ≡ last_of (parse_map object (members (value 127) (length ts) ts))
object_at ts = ap last_of (value-begin_object max_depth ts (lit< tt))

pub null_unless_members : (ts : List Token) → members (value 127) (length ts) ts ≡ None →
    AnswersNull (document_at (Token.begin_object ∷ ts))
null_unless_members ts e = rw (object_at ts, e) refl

pub null_unless_last : (ts : List Token) (o : OutlineVal) (t : Token) (rest : List Token) → IsOutlined ts o (t ∷ rest) →
    AnswersNull (document_at (Token.begin_object ∷ ts))
null_unless_last ts o t rest read = rw (object_at ts, read.value) refl

pub answered_last : (ts : List Token) (o : OutlineVal) → IsOutlined ts o [] →
    answered_by o ≡ answered_id (message_in (document_at (Token.begin_object ∷ ts)))
answered_last ts o read =
    ap answered_by read.outline
    ∙ outline_answers read.all
    ∙ ap (λ d. answered_id (message_in d)) (sym (object_at ts ∙ ap (λ r. last_of (parse_map object r)) read.value))

-- ---- members are read one after the other

abbrev pub outlined : OutlineVal → Option (Members × List Token) → Option (OutlineVal × List Token)
outlined o r = option_map (λ p. (outline_after o p.0, p.1)) r

pub outlined-more : (o : OutlineVal) (k : List ℕ) (j : Json) (r : Option (Members × List Token)) →
    outlined o (parse_map (member k j) r) ≡ outlined (noted o k (first_token j)) r
outlined-more o k j None = refl
outlined-more o k j (Some p) = refl

pub outlined-none : (o : OutlineVal) (r : Option (Members × List Token)) → outlined o r ≡ None → r ≡ None
outlined-none o None e = refl
outlined-none o (Some p) e = cc

abbrev pair_or : OutlineVal × List Token → Option (OutlineVal × List Token) → OutlineVal × List Token
pair_or d None = d
pair_or d (Some p) = p

outlined-some : (o : OutlineVal) (r : Option (Members × List Token)) (ts : List Token) → outlined no_outline r ≡ Some (o, ts) →
    (all : Members) × (r ≡ Some (all, ts)) × (o ≡ outline_after no_outline all)
outlined-some o None ts e = cc
outlined-some o (Some p) ts e =
    let pair = ap (pair_or (o, ts)) e in
    (p.0, ap (λ q. Some (p.0, q.1)) pair, sym (ap (λ q. q.0) pair))

pub outlined-all : (old : List Token) (o : OutlineVal) (ts : List Token) →
    outlined no_outline (members (value 127) (length old) old) ≡ Some (o, ts) → IsOutlined old o ts
outlined-all old o ts e =
    let found = outlined-some o (members (value 127) (length old) old) ts e in
    record { all = found.0; value = found.1; outline = found.2 }

-- ---- what is left when a token was asked for

pub next_none : (r : Option rust.Token) (old new : List Token) → Yields old r new → is_some r ≡ false → old ≡ []
next_none None old new h e = h.0
next_none (Some t) old new h e = cc

pub next_some : (r : Option rust.Token) (old new : List Token) → Yields old r new → is_some r ≡ true →
    (t : Token) × (old ≡ t ∷ new)
next_some None old new h e = cc
next_some (Some t) old new h e = (token_of t, h)

-- ---- a value that is not an array and no object is read with its token

read_one : (old ts : List Token) (j : Json) (t : Token) → old ≡ t ∷ ts → t ≡ first_token j →
    value 127 (first_token j ∷ ts) ≡ Some (j, ts) → IsRead 127 old t ts
read_one old ts j t first is one =
    record { json = j; value = ap (value 127) (first ∙ ap (λ k. k ∷ ts) is) ∙ one; first = is }

pub read_scalar : (t : rust.Token) (ts old : List Token) → old ≡ token_of t ∷ ts →
    ((x : Bor (List ℕ)) × (t ≡ String x)) ⊎ (((x : Bor (List ℕ)) × (t ≡ Number x)) ⊎ (((b : Bool) × (t ≡ Truth b)) ⊎ (t ≡ Null))) →
    IsRead 127 old (token_of t) ts
read_scalar t ts old first (inl p) =
    read_one old ts (string p.0.now) (token_of t) first (ap token_of p.1) (value_is 127 (Token.string p.0.now ∷ ts))
read_scalar t ts old first (inr (inl p)) =
    read_one old ts (number p.0.now) (token_of t) first (ap token_of p.1) (value_is 127 (Token.number p.0.now ∷ ts))
read_scalar t ts old first (inr (inr (inl p))) =
    read_one old ts (boolean p.0) (token_of t) first (ap token_of p.1) (value_is 127 (Token.boolean p.0 ∷ ts))
read_scalar t ts old first (inr (inr (inr e))) =
    read_one old ts null (token_of t) first (ap token_of e) (value_is 127 (Token.null ∷ ts))
