-- What comments name, and texts in which none names anything.
use Rattle.std.proofs.Common.{◌≡◌, ◌∙◌, ◌≢◌, ◌+◌, ◌-◌, ◌++◌, ◌∷◌, [], ℕ, List, drop, take, map, reverse, Bool, true, false, nat_eq, nat_le, cond, Option, None, Some, option_map, unwrap_or, codes, if◌then◌else◌, Bor, refl, sym, ap, subst, arith, append_assoc, append-nil}
use Rattle.std.specs.Char.{is_ascii_whitespace}
use Rattle.std.specs.List.{filter, prefix_len}
use Rattle.std.specs.Option.{MatchOption, option_and_then, option_map_or}
use Rattle.std.specs.Str.Iter.{HasSubslice}
use Rattle.std.specs.Prelude.{◌&&◌, ◌||◌, ◌==◌}
use Rattle.std.specs.Str.Pattern.{FindsTextPrefix, FindsTextSuffix, StripsPrefix, StripsSuffix}
use Rattle.std.proofs.lemmas.List.{reverse-append, reverse-reverse, take-append-drop, map-append}
use Rattle.tera_base.specs.declared.utils.Span.{Span}
use Rattle.tera_lexer.specs.grammar.Tokens.{Items, Ended, Failed, Token}
use Rattle.tera_templates.specs.Boundaries.{bytes_between, is_boundary, text_at}
use Rattle.tera_templates.specs.Ignores.{IgnoreVal, ignore_view, ignores_view, following, preceding, skipped, without_dashes, ignore_word, inside_of, rules_text, rules_at, is_blank, is_blank_line, ignores_of_rules, ignores_at, ignores_in}
use Rattle.tera_templates.specs.declared.ignores.Ignore.{Ignore}

-- ---- a text that is taken off another

is_after : (front rest : List ℕ) → following front (front ++ rest) ≡ Some rest
is_after [] rest = refl
is_after (f ∷ fs) rest =
    let same : nat_eq f f ≡ true = grind arith in
    ap (λ b. if b then following fs (fs ++ rest) else None) same ∙ is_after fs rest

not_after : (front text : List ℕ) → ((rest : List ℕ) → text ≢ front ++ rest) → following front text ≡ None
not_after [] text h = absurd (h text refl)
not_after (f ∷ fs) [] h = refl
not_after (f ∷ fs) (b ∷ bs) h = by (nat_eq f b) refl (λ same. not_after fs bs (λ rest is. h rest (cc)))
  where
    by : (t : Bool) → nat_eq f b ≡ t → (f ≡ b → following fs bs ≡ None) → (if t then following fs bs else None) ≡ None
    by false e g = refl
    by true e g = g (grind (arith, e))

pub stripped : (front text : List ℕ) (r : Option (Bor (List ℕ))) → MatchOption r (FindsTextPrefix front text None) (λ x. StripsPrefix (FindsTextPrefix front) text x.now)
    → option_map (λ x. x.now) r ≡ following front text
stripped front text None h = sym (not_after front text h)
stripped front text (Some x) (k, (same, split, boundary), is, len) =
    ap Some is ∙ sym (ap (following front) split ∙ is_after front (drop k text))

turned : (back rest text : List ℕ) → reverse text ≡ reverse back ++ rest → text ≡ reverse rest ++ back
turned back rest text is =
    sym (reverse-reverse text) ∙ ap reverse is ∙ reverse-append (reverse back) rest ∙ ap (λ b. reverse rest ++ b) (reverse-reverse back)

pub stripped_end : (back text : List ℕ) (r : Option (Bor (List ℕ))) → MatchOption r (FindsTextSuffix back text None) (λ x. StripsSuffix (FindsTextSuffix back) text x.now)
    → option_map (λ x. x.now) r ≡ preceding back text
stripped_end back text None h = sym (ap (option_map reverse) (not_after (reverse back) (reverse text) (λ rest is. h (reverse rest) (turned back rest text is))))
stripped_end back text (Some x) (k, (same, split, boundary), is, len) =
    let whole : text ≡ x.now ++ back = split ∙ ap (λ t. t ++ back) (sym is) in
    let over : reverse text ≡ reverse back ++ reverse x.now = ap reverse whole ∙ reverse-append x.now back in
    sym (
    ap (λ t. option_map reverse (following (reverse back) t)) over
    ∙ ap (option_map reverse) (is_after (reverse back) (reverse x.now))
    ∙ ap Some (reverse-reverse x.now)
    )

pub unwrapped : (o : Option (Bor (List ℕ))) (d : Bor (List ℕ)) → (unwrap_or o d).now ≡ unwrap_or (option_map (λ x. x.now) o) d.now
unwrapped None d = refl
unwrapped (Some x) d = refl

-- ---- a text that does not have the word

same_Some : {X : Type 0} (x y : X) → (Some x ≡ Some y) → x ≡ y
same_Some x y h = cc

none_some : {X : Type 0} (y : X) → (None ≡ Some y) → ⊥
none_some y h = cc

following_is : (front text rest : List ℕ) → following front text ≡ Some rest → text ≡ front ++ rest
following_is [] text rest h = same_Some text rest h
following_is (f ∷ fs) [] rest h = absurd (none_some rest h)
following_is (f ∷ fs) (b ∷ bs) rest h = by (nat_eq f b) refl (following_is fs bs rest) h
  where
    by : (t : Bool) → nat_eq f b ≡ t → (following fs bs ≡ Some rest → bs ≡ fs ++ rest) → (if t then following fs bs else None) ≡ Some rest → b ∷ bs ≡ f ∷ (fs ++ rest)
    by false e more g = absurd (none_some rest g)
    by true e more g =
        let same : f ≡ b = grind (arith, e) in
        λ i. sym same i ∷ more g i

mapped : {X Y : Type 0} (f : X → Y) (o : Option X) (y : Y) → option_map f o ≡ Some y → (x : X) × (o ≡ Some x) × (f x ≡ y)
mapped f None y h = absurd (none_some y h)
mapped f (Some x) y h = (x, refl, same_Some (f x) y h)

chained : {X Y : Type 0} (f : X → Option Y) (o : Option X) (y : Y) → option_and_then f o ≡ Some y → (x : X) × (o ≡ Some x) × (f x ≡ Some y)
chained f None y h = absurd (none_some y h)
chained f (Some x) y h = (x, refl, h)

preceding_is : (back text front : List ℕ) → preceding back text ≡ Some front → text ≡ front ++ back
preceding_is back text front h =
    let (rest, is, over) = mapped reverse (following (reverse back) (reverse text)) front h in
    turned back rest text (following_is (reverse back) (reverse text) rest is) ∙ ap (λ t. t ++ back) over

abbrev Has : List ℕ → Type 0
Has text = HasSubslice text ignore_word

has_more : (front text back : List ℕ) → Has text → Has (front ++ (text ++ back))
has_more front text back (a, b, is) = (
  front ++ a,
  b ++ back,
  ap (λ t. front ++ (t ++ back)) is
      ∙ ap (λ t. front ++ t) (append_assoc a (ignore_word ++ b) back ∙ ap (λ t. a ++ t) (append_assoc ignore_word b back))
      ∙ sym (append_assoc front a (ignore_word ++ (b ++ back))),
)

has_in : (all front text back : List ℕ) → all ≡ front ++ (text ++ back) → Has text → Has all
has_in all front text back is has = subst Has (sym is) (has_more front text back has)

begun_in : (o : Option (List ℕ)) (inside : List ℕ) → following (codes "-") inside ≡ o → Has (unwrap_or o inside) → Has inside
begun_in None inside is has = has
begun_in (Some rest) inside is has =
    has_in inside (codes "-") rest [] (following_is (codes "-") inside rest is ∙ ap (λ t. codes "-" ++ t) (sym (append-nil rest))) has

ended_in : (o : Option (List ℕ)) (inside : List ℕ) → preceding (codes "-") inside ≡ o → Has (unwrap_or o inside) → Has inside
ended_in None inside is has = has
ended_in (Some front) inside is has = has_in inside [] front (codes "-") (preceding_is (codes "-") inside front is) has

dashes_in : (inside : List ℕ) → Has (without_dashes inside) → Has inside
dashes_in inside has =
    let begun = unwrap_or (following (codes "-") inside) inside in
    begun_in (following (codes "-") inside) inside refl (ended_in (preceding (codes "-") begun) begun refl has)

word_in : (inside rules : List ℕ) → following ignore_word (skipped inside) ≡ Some rules → Has inside
word_in inside rules is =
    let n = prefix_len is_ascii_whitespace inside in
    has_in inside (take n inside) (skipped inside) []
    (sym (take-append-drop n inside) ∙ ap (λ t. take n inside ++ t) (sym (append-nil (skipped inside))))
    ([], rules, following_is ignore_word (skipped inside) rules is)

comment_has : (start end comment rules : List ℕ) → rules_text start end comment ≡ Some rules → Has comment
comment_has start end comment rules is =
    let (inside, within, word) = chained (λ inside. following ignore_word (skipped inside)) (inside_of start end comment) rules is in
    let (raw, cut, bare) = mapped without_dashes (option_and_then (preceding end) (following start comment)) inside within in
    let (rest, opened, closed) = chained (preceding end) (following start comment) raw cut in
    let has : Has raw = dashes_in raw (subst Has (sym bare) (word_in inside rules word)) in
    has_in comment start raw end (following_is start comment rest opened ∙ ap (λ t. start ++ t) (preceding_is end rest raw closed)) has

part_has : (text : List ℕ) (from to : ℕ) (part : List ℕ) → text_at text (from, to) ≡ Some part → Has part → Has text
part_has text from to part is has = by (is_boundary text from && (is_boundary text to && nat_le from to)) is
  where
    by : (b : Bool) → (if b then Some (bytes_between (from, to) text) else None) ≡ Some part → Has text
    by false h = absurd (none_some part h)
    by true h =
        let same : take (to - from) (drop from text) ≡ part = same_Some (bytes_between (from, to) text) part h in
        has_in text (take from text) part (drop (to - from) (drop from text))
        (sym (take-append-drop from text) ∙ ap (λ t. take from text ++ t) (sym (take-append-drop (to - from) (drop from text)) ∙ ap (λ t. t ++ drop (to - from) (drop from text)) same)) has

token_has : (start end text : List ℕ) (span : Span) (rules : List ℕ) → rules_at start end text span ≡ Some rules → Has text
token_has start end text span rules is =
    let (comment, part, names) = chained (rules_text start end) (text_at text (span.range.start, span.range.end)) rules is in
    part_has text span.range.start span.range.end comment part (comment_has start end comment rules names)

none_at : (start end text : List ℕ) (span : Span) → (Has text → ⊥) → ignores_at start end text span ≡ []
none_at start end text span none = by (rules_at start end text span) refl
  where
    by : (o : Option (List ℕ)) → rules_at start end text span ≡ o → option_map_or (ignores_of_rules text span) o [] ≡ []
    by None e = refl
    by (Some rules) e = absurd (none (token_has start end text span rules e))

pub no_ignores : (start end text : List ℕ) (items : Items) → (HasSubslice text ignore_word → ⊥) → [] ≡ ignores_in start end text items
no_ignores start end text Ended none = refl
no_ignores start end text (Failed message span) none = refl
no_ignores start end text (Token t span items) none =
    no_ignores start end text items none ∙ ap (λ is. is ++ ignores_in start end text items) (sym (none_at start end text span none))

-- ---- white space on a line

pub last_byte : (left before : List ℕ) (byte : ℕ) → left ≡ before ++ byte ∷ [] → is_blank_line (reverse left) ≡ ((byte == 10) || (is_blank byte && is_blank_line (reverse before)))
last_byte left before byte split = ap (λ bs. is_blank_line (reverse bs)) split ∙ ap is_blank_line (reverse-append before (byte ∷ []))

-- ---- those that are kept

pub kept_view : (p : Ignore → Bool) (q : IgnoreVal → Bool) → ((i : Ignore) → p i ≡ q (ignore_view i)) → (is : List Ignore) → ignores_view (filter p is) ≡ filter q (ignores_view is)
kept_view p q same [] = refl
kept_view p q same (i ∷ is) =
    by (p i) (filter p is) ∙ (λ k. cond (same i k) (ignore_view i ∷ kept_view p q same is k) (kept_view p q same is k))
  where
    by : (b : Bool) (more : List Ignore) → ignores_view (cond b (i ∷ more) more) ≡ cond b (ignore_view i ∷ ignores_view more) (ignores_view more)
    by true more = refl
    by false more = refl

-- ---- one rule more

pub one_rule : (f : Bor (List ℕ) → IgnoreVal) (start old new : List IgnoreVal) (done : List (Bor (List ℕ))) (p : Bor (List ℕ)) → old ≡ start ++ map f done → new ≡ old ++ (f p ∷ []) → new ≡ start ++ map f (done ++ p ∷ [])
one_rule f start old new done p held step =
    step ∙ ap (λ is. is ++ (f p ∷ [])) held ∙ append_assoc start (map f done) (f p ∷ []) ∙ ap (λ is. start ++ is) (sym (map-append f done (p ∷ [])))
