-- Names, and maps by names.
use Rattle.std.proofs.Common.{◌≡◌, ℕ, zero, suc, ◌+◌, ◌<◌, Bool, true, false, not, cond, ◌||◌, List, [], ◌∷◌, ◌++◌, length, take, drop, get_or, map, filter, Option, Some, None, is_some, String, string_bytes, Global, Bor, nat_cmp, string_cmp, Ordering, Less, Equal, Greater, ◌⊎◌, inl, inr, subst, refl, sym, ap, ◌∙◌, append_assoc, append-nil, ◌≤◌, ◌==◌, codes, arith}
use Rattle.std.proofs.lemmas.Bool.Decides.{nat_tests}
use Rattle.std.specs.BTreeMap.{is_at}
use Rattle.std.specs.Cmp.Lexicographic.{slice_cmp}
use Rattle.std.specs.List.{AllByRecursion}
use Rattle.std.specs.List.Sorted.{IsStrictlySortedBy}
use Rattle.std.specs.Map.{lookup, keys_of}
use Rattle.std.specs.BTreeSet.{insert_key}
use Rattle.std.specs.Ordering.{is_eq, match_ordering}
use Rattle.std.proofs.lemmas.List.{map-append}
use Rattle.std.proofs.lemmas.List.Elements.{filter-append}
use Rattle.std.proofs.lemmas.Map.Text.{is_eq-slice_cmp}
use Rattle.tera_base.specs.Contexts.{put, put_all}
use Rattle.tera_base.specs.Pairs.{put as put_in}
use Rattle.tera_base.specs.Same.{key_eq}
use Rattle.tera_base.specs.Values.{Pairs, OnePair, TextKey}
use Rattle.tera_base.specs.ValueView.{key_view, value_view, pairs_view}
use Rattle.tera_base.specs.declared.values.Key.{Key}
use Rattle.tera_base.specs.declared.values.Value.{Value}
use Rattle.tera_tree.specs.Tree.{Argument}
use Rattle.tera_tree.specs.Definitions.{named_argument}
use Rattle.tera_tree.specs.Calls.{Pair, arguments_view, put_pair, texts, unknown, is_argument, put_pairs, place_name, place_names, names_text, possible_text, IsAmong, argument_names}
use Rattle.tera_tree.specs.declared.ast.ComponentArgument.{ComponentArgument}

abbrev pub Name : Type 0
Name = Bor (List ℕ)

-- a list at one of its places
pub split : {X : Type 0} (xs : List X) (i : ℕ) (d : X) → i < length xs → xs ≡ take i xs ++ (get_or xs i d ∷ drop (suc i) xs)
split [] i d h = absurd (omega arith)
split (x ∷ xs) zero d h = refl
split (x ∷ xs) (suc i) d h = ap (λ ys. x ∷ ys) (split xs i d (omega arith))

pub split_texts : (xs : List Name) (i : ℕ) (d : Name) → i < length xs → texts xs ≡ texts (take i xs) ++ ((get_or xs i d).now ∷ texts (drop (suc i) xs))
split_texts xs i d h = ap texts (split xs i d h) ∙ map-append _ (take i xs) _

pub take_more : {X : Type 0} (xs : List X) (i : ℕ) (d : X) → i < length xs → take (suc i) xs ≡ take i xs ++ (get_or xs i d ∷ [])
take_more [] i d h = absurd (omega arith)
take_more (x ∷ xs) zero d h = refl
take_more (x ∷ xs) (suc i) d h = ap (λ ys. x ∷ ys) (take_more xs i d (omega arith))

pub take_texts : (xs : List Name) (i : ℕ) (d : Name) → i < length xs → texts (take (i + 1) xs) ≡ texts (take i xs) ++ ((get_or xs i d).now ∷ [])
take_texts xs i d h = let e : i + 1 ≡ suc i = omega arith in rw e (ap texts (take_more xs i d h) ∙ map-append _ (take i xs) _)

pub take_whole : {X : Type 0} (xs : List X) (i : ℕ) → length xs ≤ i → take i xs ≡ xs
take_whole [] zero h = refl
take_whole [] (suc i) h = refl
take_whole (x ∷ xs) zero h = absurd (omega arith)
take_whole (x ∷ xs) (suc i) h = ap (λ ys. x ∷ ys) (take_whole xs i (omega arith))

-- a pair put into a map of values
put_by : (b : Bool) (p : Key × Value) (v : Value) (ps qs : List (Key × Value)) → pairs_view (cond b ((p.0, v) ∷ ps) (p ∷ qs)) ≡ cond b (OnePair (key_view p.0) (value_view v) (pairs_view ps)) (OnePair (key_view p.0) (value_view p.1) (pairs_view qs))
put_by true p v ps qs = refl
put_by false p v ps qs = refl

pub pairs_put : (k : Key) (v : Value) (ps : List (Key × Value)) → pairs_view (put_in k v ps) ≡ put_pair (key_view k) (value_view v) (pairs_view ps)
pairs_put k v [] = refl
pairs_put k v (p ∷ ps) = put_by (key_eq (key_view k) (key_view p.0)) p v ps (put_in k v ps) ∙ rw (pairs_put k v ps)

-- one more put
pub put_pairs_more : (ps : List Pair) (p : Pair) (m : Pairs) → put_pairs (ps ++ p ∷ []) m ≡ put_pair (TextKey p.0) p.1 (put_pairs ps m)
put_pairs_more [] p m = refl
put_pairs_more (q ∷ ps) p m = put_pairs_more ps p (put_pair (TextKey q.0) q.1 m)

pub put_all_more : (ps : List Pair) (p : Pair) (es : List Pair) → put_all (ps ++ p ∷ []) es ≡ put p.0 p.1 (put_all ps es)
put_all_more [] p es = refl
put_all_more (q ∷ ps) p es = put_all_more ps p (put q.0 q.1 es)

-- arguments at one of them
abbrev pub Entry : Type 0
Entry = String Global × ComponentArgument

pub split_arguments : (entries done left rest : List Entry) (e : Entry) → entries ≡ done ++ rest → rest ≡ e ∷ left → arguments_view entries ≡ arguments_view done ++ (named_argument e ∷ arguments_view left)
split_arguments entries done left rest e h k = ap arguments_view (h ∙ ap (λ es. done ++ es) k) ∙ map-append named_argument done (e ∷ left)

pub done_more : (entries done left rest : List Entry) (e : Entry) → entries ≡ done ++ rest → rest ≡ e ∷ left → entries ≡ (done ++ e ∷ []) ++ left
done_more entries done left rest e h k = h ∙ ap (λ es. done ++ es) k ∙ sym (append_assoc done (e ∷ []) left)

pub arguments_more : (done : List Entry) (e : Entry) → arguments_view (done ++ e ∷ []) ≡ arguments_view done ++ (named_argument e ∷ [])
arguments_more done e = map-append named_argument done (e ∷ [])

pub all_done : (entries done rest : List Entry) → entries ≡ done ++ rest → rest ≡ [] → arguments_view done ≡ arguments_view entries
all_done entries done rest h k = ap arguments_view (sym (h ∙ ap (λ es. done ++ es) k ∙ append-nil done))

-- which names are arguments
is_some_by : (b : Bool) (a : ComponentArgument) (o : Option ComponentArgument) → is_some (cond b (Some a) o) ≡ (b || is_some o)
is_some_by true a o = refl
is_some_by false a o = refl

pub has_argument : (n : List ℕ) (es : List (String Global × ComponentArgument)) → is_some (lookup (is_at (λ k. slice_cmp nat_cmp n (string_bytes k))) es) ≡ is_argument (arguments_view es) n
has_argument n [] = refl
has_argument n (e ∷ es) = is_some_by (is_eq (slice_cmp nat_cmp n (string_bytes e.0))) e.1 _ ∙ rw (is_eq-slice_cmp n (string_bytes e.0), has_argument n es)

kept_by : (b : Bool) (n : List ℕ) → filter (λ m. not b) (n ∷ []) ≡ cond b [] (n ∷ [])
kept_by true n = refl
kept_by false n = refl

pub unknown_more : (arguments : List (List ℕ × Argument)) (ns : List Name) (n : Name) → unknown arguments (texts (ns ++ n ∷ [])) ≡ unknown arguments (texts ns) ++ cond (is_argument arguments n.now) [] (n.now ∷ [])
unknown_more arguments ns n =
    ap (unknown arguments) (map-append (λ (m : Name). m.now) ns (n ∷ []))
    ∙ filter-append _ (texts ns) (n.now ∷ [])
    ∙ ap (λ ms. unknown arguments (texts ns) ++ ms) (kept_by (is_argument arguments n.now) n.now)

pub unknown_known : (es : List Entry) (ns : List Name) (n : Name) → true ≡ is_some (lookup (is_at (λ k. slice_cmp nat_cmp n.now (string_bytes k))) es)
    → unknown (arguments_view es) (texts (ns ++ n ∷ [])) ≡ unknown (arguments_view es) (texts ns)
unknown_known es ns n h =
    let e : is_argument (arguments_view es) n.now ≡ true = sym (has_argument n.now es) ∙ sym h in
    unknown_more (arguments_view es) ns n ∙ rw e (append-nil _)

pub unknown_new : (es : List Entry) (ns : List Name) (n : Name) → false ≡ is_some (lookup (is_at (λ k. slice_cmp nat_cmp n.now (string_bytes k))) es)
    → unknown (arguments_view es) (texts (ns ++ n ∷ [])) ≡ unknown (arguments_view es) (texts ns) ++ (n.now ∷ [])
unknown_new es ns n h =
    let e : is_argument (arguments_view es) n.now ≡ false = sym (has_argument n.now es) ∙ sym h in
    unknown_more (arguments_view es) ns n ∙ rw e refl

-- names placed in byte order
texts_by_order : (o : Ordering) (a b c : List Name) → texts (match_ordering o a b c) ≡ match_ordering o (texts a) (texts b) (texts c)
texts_by_order Less a b c = refl
texts_by_order Equal a b c = refl
texts_by_order Greater a b c = refl

pub texts_insert : (ns : List Name) (n : Name) → texts (insert_key (λ x y. slice_cmp nat_cmp x.now y.now) ns n) ≡ place_name n.now (texts ns)
texts_insert [] n = refl
texts_insert (m ∷ ns) n = texts_by_order (slice_cmp nat_cmp n.now m.now) _ _ _ ∙ rw (texts_insert ns n)

pub names_of : (es : List Entry) → map string_bytes (keys_of es) ≡ map (λ a. a.0) (arguments_view es)
names_of [] = refl
names_of (e ∷ es) = ap (λ ns. string_bytes e.0 ∷ ns) (names_of es)

-- names that ascend as texts ascend as bytes
above : (k : String Global) (es : List Entry) → AllByRecursion (λ l. string_cmp k l ≡ Less) (keys_of es) → AllByRecursion (λ m. slice_cmp nat_cmp (string_bytes k) m ≡ Less) (argument_names (arguments_view es))
above k [] all = tt
above k (e ∷ es) all = (all.0, above k es all.1)

pub arguments_ordered : (es : List Entry) → IsStrictlySortedBy string_cmp (keys_of es) → IsStrictlySortedBy (slice_cmp nat_cmp) (argument_names (arguments_view es))
unfolding IsStrictlySortedBy
arguments_ordered [] h = tt
arguments_ordered (e ∷ es) h = (above e.0 es h.0, arguments_ordered es h.1)

abbrev pub name_cmp : Name → Name → Ordering
name_cmp x y = slice_cmp nat_cmp x.now y.now

drop_more : {X : Type 0} (xs : List X) (i : ℕ) (d : X) → i < length xs → drop i xs ≡ get_or xs i d ∷ drop (suc i) xs
drop_more [] i d h = absurd (omega arith)
drop_more (x ∷ xs) zero d h = refl
drop_more (x ∷ xs) (suc i) d h = drop_more xs i d (omega arith)

pub place_next : (ns : List Name) (i : ℕ) (d : Name) (keys : List Name) → i < length ns
    → place_names (texts (drop (i + 1) ns)) (texts (insert_key name_cmp keys (get_or ns i d))) ≡ place_names (texts (drop i ns)) (texts keys)
place_next ns i d keys h =
    let e : i + 1 ≡ suc i = omega arith in
    rw (e, drop_more ns i d h) (ap (λ ks. place_names (texts (drop (suc i) ns)) ks) (texts_insert keys (get_or ns i d)))

-- names of arguments, listed one by one
pub listed_more : (ns : List Name) (n : Name) (k : String Global) (rest left : List (String Global)) (all : List (List ℕ))
    → texts ns ++ map string_bytes left ≡ all → left ≡ k ∷ rest → n.now ≡ string_bytes k → texts (ns ++ n ∷ []) ++ map string_bytes rest ≡ all
listed_more ns n k rest left all h e named =
    ap (λ ms. ms ++ map string_bytes rest) (map-append (λ (m : Name). m.now) ns (n ∷ []))
    ∙ append_assoc (texts ns) (n.now ∷ []) (map string_bytes rest)
    ∙ ap (λ m. texts ns ++ (m ∷ map string_bytes rest)) named
    ∙ ap (λ ks. texts ns ++ map string_bytes ks) (sym e)
    ∙ h

pub listed_all : (ns : List Name) (left : List (String Global)) (all : List (List ℕ)) → texts ns ++ map string_bytes left ≡ all → left ≡ [] → texts ns ≡ all
listed_all ns left all h e = sym (append-nil (texts ns)) ∙ ap (λ ks. texts ns ++ map string_bytes ks) (sym e) ∙ h

-- the names that may be given, where there are some
is_zero : (n : ℕ) → true ≡ (n == 0) → n ≡ 0
is_zero n e = grind (arith, nat_tests)

not_zero : (n : ℕ) → false ≡ (n == 0) → 0 < n
not_zero n e = grind (arith, nat_tests)

pub no_names : (ns : List Name) → true ≡ (length ns == 0) → ns ≡ []
no_names [] e = refl
no_names (n ∷ ns) e = let z : suc (length ns) ≡ 0 = is_zero (suc (length ns)) e in absurd (omega arith)

pub some_names : (ns : List Name) → false ≡ (length ns == 0) → (n : Name) × (ms : List Name) × (ns ≡ n ∷ ms)
some_names [] e = let z : 0 < 0 = not_zero 0 e in absurd (omega arith)
some_names (n ∷ ns) e = (n, ns, refl)

pub possible_none : (ns : List Name) → true ≡ (length ns == 0) → possible_text (texts ns) ≡ []
possible_none ns e = ap (λ ms. possible_text (texts ms)) (no_names ns e)

pub possible_some : (ns : List Name) → false ≡ (length ns == 0) → possible_text (texts ns) ≡ codes " Possible argument(s) are: " ++ names_text (texts ns)
possible_some ns e = let s = some_names ns e in rw s.2 refl

pub ruleset possible_texts = (possible_none, possible_some, append-nil)

-- where a name is among names
pub among_middle : (before after : List (List ℕ)) (n : List ℕ) → IsAmong (before ++ (n ∷ after)) n
among_middle [] after n = inl refl
among_middle (m ∷ before) after n = inr (among_middle before after n)

kept_among : (b : Bool) (m : List ℕ) (ms kept : List (List ℕ)) (n : List ℕ) → (IsAmong kept n → IsAmong ms n) → IsAmong (cond b (m ∷ kept) kept) n → IsAmong (m ∷ ms) n
kept_among true m ms kept n more (inl e) = inl e
kept_among true m ms kept n more (inr h) = inr (more h)
kept_among false m ms kept n more h = inr (more h)

pub among_filter : (p : List ℕ → Bool) (ms : List (List ℕ)) (n : List ℕ) → IsAmong (filter p ms) n → IsAmong ms n
among_filter p [] n h = h
among_filter p (m ∷ ms) n h = kept_among (p m) m ms (filter p ms) n (among_filter p ms n) h

pub among_names : (xs : List Name) (i : ℕ) (d : Name) → i < length xs → IsAmong (texts xs) (get_or xs i d).now
among_names xs i d h = subst (λ ns. IsAmong ns (get_or xs i d).now) (sym (split_texts xs i d h)) (among_middle (texts (take i xs)) _ _)

pub among_arguments : (entries done left rest : List Entry) (e : Entry) → entries ≡ done ++ rest → rest ≡ e ∷ left → IsAmong (argument_names (arguments_view entries)) (string_bytes e.0)
among_arguments entries done left rest e h k =
    subst (λ rows. IsAmong (argument_names rows) (string_bytes e.0)) (sym (split_arguments entries done left rest e h k))
    (subst (λ ns. IsAmong ns (string_bytes e.0)) (sym (map-append (λ (a : List ℕ × Argument). a.0) (arguments_view done) (named_argument e ∷ arguments_view left)))
    (among_middle (argument_names (arguments_view done)) (argument_names (arguments_view left)) (string_bytes e.0)))
