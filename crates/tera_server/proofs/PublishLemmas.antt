-- Messages that are sent of documents, one after another.
use Rattle.std.proofs.Common.{◌≡◌, Bor, Result, Ok, Err, OnErr, ◌∙◌, ◌<◌, ◌≤◌, ◌+◌, ◌++◌, ◌∷◌, [], ◌⊎◌, inl, inr, ◌||◌, ℕ, List, String, string_bytes, length, get_or, take, drop, map, Bool, true, false, if◌then◌else◌, cond, refl, sym, ap, subst, append_assoc}
use Rattle.std.specs.BTreeSet.{BTreeSet, UpdatesBy}
use Rattle.std.specs.Cmp.Lexicographic.{slice_cmp}
use Rattle.std.specs.List.{slice_index_or}
use Rattle.std.specs.Ordering.{nat_cmp}
use Rattle.std.specs.Str.{bytes_eq}
use Rattle.std.specs.declared.alloc.Global.{Global}
use Rattle.std.proofs.lemmas.Bool.{false≢true}
use Rattle.std.proofs.lemmas.List.{append-nil, map-append, take_more, take_all, take-append-drop}
use Rattle.std.proofs.lemmas.List.Concat.{flat_map-append}
use Rattle.std.proofs.lemmas.Map.Text.{is_eq-slice_cmp}
use Rattle.std.proofs.lemmas.Slice.Eq.{bytes_eq-Decides}
use Rattle.json_rpc.specs.Outgoing.{Outgoing, more}
use Rattle.tera_workspace.specs.Definitions.{AreRead}
use Rattle.tera_workspace.specs.Kept.{templates_of}
use Rattle.tera_workspace.specs.Names.{is_among, contains_name}
use Rattle.tera_workspace.specs.SiteValues.{KeptSiteVal}
use Rattle.tera_workspace.specs.Sites.{FitsTemplates, FitsWorkspace}
use Rattle.tera_workspace.specs.Workspaces.{reported_of_name, IsKept, IsSettled, AreOthers}
use Rattle.tera_workspace.specs.declared.workspace.Workspace.{Workspace}
use Rattle.tera_workspace.proofs.NameSets.{among_append}
use Rattle.text_edits.specs.Stored.{document_of}
use Rattle.tera_server.specs.Between.{AreFaultsFor, Faults}
use Rattle.tera_editor.specs.Editors.{state_of}
use Rattle.tera_server.specs.Sending.{with_all, found_message, unless_lost, messages_in, Publisher, publisher_of, SendsFirst, names_once, unpublished_of}
use Rattle.tera_server.specs.Settling.{due_of, ArePublishedAsRead, ArePublishedInPart, OnlyReports}
use Rattle.tera_server.specs.States.{edited_of}
use Rattle.tera_editor.specs.Sites.{renewed_of}
use Rattle.tera_editor.specs.declared.editor.DocumentState.{DocumentState}
use Rattle.tera_editor.specs.declared.editor.DocumentState.TheVariants.{Open, Lost, Closed}
use Rattle.tera_server.specs.declared.server.Server.{Server}
use Rattle.tera_server.proofs.NamingLemmas.{NameList, names_of}
use Rattle.tera_server.proofs.BetweenLemmas.{none_found, of_fewer}
use Rattle.tera_editor.proofs.SiteLemmas.{among_either, around_same, is_head}

-- ---- more messages

sent_as : Bool → List (List ℕ) → Outgoing
sent_as reserved messages = record { sent = messages; reserved = reserved }

pub with_none : (o : Outgoing) → with_all o [] ≡ o
unfolding sent_as
with_none o = ap (sent_as o.reserved) (append-nil o.sent)

pub with_twice : (o : Outgoing) (a b : List (List ℕ)) → with_all (with_all o a) b ≡ with_all o (a ++ b)
unfolding sent_as
with_twice o a b = ap (sent_as o.reserved) (append_assoc o.sent a b)

-- the messages of some documents, and then those of others
pub messages_join : (p : Publisher) (w : Workspace) (xs ys : List (List ℕ)) → messages_in p w (xs ++ ys) ≡ messages_in p w xs ++ messages_in p w ys
messages_join p w xs ys = flat_map-append (λ n. unless_lost (state_of p.editor n) (found_message p w n)) xs ys

-- the message of one document, unless it is open with a text that is not known
pub one_sent : (p : Publisher) (w : Workspace) (n m : List ℕ) (o : Outgoing) → (state_of p.editor n ≡ Open) ⊎ (state_of p.editor n ≡ Closed) → m ≡ found_message p w n
    → more o m ≡ with_all o (messages_in p w (n ∷ []))
one_sent p w n m o sound is = by (state_of p.editor n) sound
  where
    by : (s : DocumentState) → (s ≡ Open) ⊎ (s ≡ Closed) → more o m ≡ with_all o (unless_lost s (found_message p w n) ++ [])
    by Open h = ap (more o) is
    by Lost h = absurd (elim h [ inl e ↦ cc | inr e ↦ cc ])
    by Closed h = ap (more o) is

pub sends_all : (messages : List (List ℕ) → List (List ℕ)) (names : List (String Global)) (i : ℕ) (start now : Outgoing) →
    length names ≤ i → now ≡ with_all start (messages (map string_bytes (take i names))) → now ≡ with_all start (messages (map string_bytes names))
sends_all messages names i start now all e = e ∙ ap (λ ns. with_all start (messages (map string_bytes ns))) (take_all i names all)

pub sends_first : (messages : List (List ℕ) → List (List ℕ)) (names : List (String Global)) (i : ℕ) (start now : Outgoing) →
    now ≡ with_all start (messages (map string_bytes (take i names))) → SendsFirst messages (map string_bytes names) start now
sends_first messages names i start now e = (
  map string_bytes (take i names),
  map string_bytes (drop i names),
  ap (map string_bytes) (sym (take-append-drop i names)) ∙ map-append string_bytes (take i names) (drop i names),
  e,
)

-- ---- names among others

pub among_left : (n : List ℕ) (xs ys : List (List ℕ)) → is_among n xs ≡ true → is_among n (xs ++ ys) ≡ true
among_left n [] ys h = absurd (cc)
among_left n (x ∷ xs) ys h = by (bytes_eq x n) (among_left n xs ys) h
  where
    by : (b : Bool) → (is_among n xs ≡ true → is_among n (xs ++ ys) ≡ true) → (if b then true else is_among n xs) ≡ true → (if b then true else is_among n (xs ++ ys)) ≡ true
    by true f e = refl
    by false f e = f e

pub among_right : (n : List ℕ) (xs ys : List (List ℕ)) → is_among n ys ≡ true → is_among n (xs ++ ys) ≡ true
among_right n [] ys h = h
among_right n (x ∷ xs) ys h = by (bytes_eq x n) (among_right n xs ys h)
  where
    by : (b : Bool) → is_among n (xs ++ ys) ≡ true → (if b then true else is_among n (xs ++ ys)) ≡ true
    by true e = refl
    by false e = e

head_among : (n m : List ℕ) (ms : List (List ℕ)) → bytes_eq m n ≡ true → is_among n (m ∷ ms) ≡ true
head_among n m ms e = ap (λ b. if b then true else is_among n ms) e

tail_among : (n m : List ℕ) (ms : List (List ℕ)) → is_among n ms ≡ true → is_among n (m ∷ ms) ≡ true
tail_among n m ms e = among_right n (m ∷ []) ms e

-- ---- names that are not among others, each once

pub or_false : (b : Bool) → (b || false) ≡ b
or_false true = refl
or_false false = refl

-- a name, unless it is among others
abbrev pub unless : Bool → List ℕ → List (List ℕ)
unless among n = if among then [] else n ∷ []

-- a name that is equal to one of some is among them
same_among : (same among rest : Bool) → (same ≡ true → among ≡ true) → (among || rest) ≡ (among || (if same then true else rest))
same_among same true rest f = refl
same_among true false rest f = absurd (false≢true (f refl))
same_among false false rest f = refl

moved_among : (same among rest : Bool) → ((if same then true else among) || rest) ≡ (among || (if same then true else rest))
moved_among true true rest = refl
moved_among true false rest = refl
moved_among false among rest = refl

-- a name that comes after some is there unless it is one of these, or of the others
pub once_more : (others xs : List (List ℕ)) (n : List ℕ) →
    names_once others (xs ++ n ∷ []) ≡ names_once others xs ++ unless (is_among n others || is_among n xs) n
once_more others [] n = ap (λ b. unless b n) (sym (or_false (is_among n others)))
once_more others (x ∷ xs) n = by (is_among x others) refl (once_more others xs n) (once_more (x ∷ others) xs n)
  where
    by : (b : Bool) → is_among x others ≡ b → names_once others (xs ++ n ∷ []) ≡ names_once others xs ++ unless (is_among n others || is_among n xs) n
        → names_once (x ∷ others) (xs ++ n ∷ []) ≡ names_once (x ∷ others) xs ++ unless (is_among n (x ∷ others) || is_among n xs) n
        → (if b then names_once others (xs ++ n ∷ []) else x ∷ names_once (x ∷ others) (xs ++ n ∷ []))
        ≡ (if b then names_once others xs else x ∷ names_once (x ∷ others) xs) ++ unless (is_among n others || is_among n (x ∷ xs)) n
    by true is f g =
        f
        ∙ ap (λ b. names_once others xs ++ unless b n)
        (same_among (bytes_eq x n) (is_among n others) (is_among n xs) (λ e. subst (λ k. is_among k others ≡ true) ((bytes_eq-Decides x n).0 e) is))
    by false is f g =
        ap (λ ns. x ∷ ns) g
        ∙ ap (λ b. x ∷ (names_once (x ∷ others) xs ++ unless b n)) (moved_among (bytes_eq x n) (is_among n others) (is_among n xs))

pub among_once : (n : List ℕ) (others ns : List (List ℕ)) → is_among n (names_once others ns) ≡ true → is_among n ns ≡ true
among_once n others [] h = h
among_once n others (m ∷ ms) h = by (is_among m others) h (among_once n others ms) (among_once n (m ∷ others) ms)
  where
    by : (b : Bool) → is_among n (if b then names_once others ms else m ∷ names_once (m ∷ others) ms) ≡ true
        → (is_among n (names_once others ms) ≡ true → is_among n ms ≡ true) → (is_among n (names_once (m ∷ others) ms) ≡ true → is_among n ms ≡ true)
        → is_among n (m ∷ ms) ≡ true
    by true h f g = tail_among n m ms (f h)
    by false h f g =
        elim (among_either n (m ∷ []) (names_once (m ∷ others) ms) h) [
          | inl e ↦ head_among n m ms (is_head n m e)
          | inr e ↦ tail_among n m ms (g e)
        ]

pub once_or_among : (n : List ℕ) (others ns : List (List ℕ)) → is_among n ns ≡ true → (is_among n (names_once others ns) ≡ true) ⊎ (is_among n others ≡ true)
once_or_among n others [] h = absurd (cc)
once_or_among n others (m ∷ ms) h = by (is_among m others) refl (among_either n (m ∷ []) ms h) (once_or_among n others ms) (once_or_among n (m ∷ others) ms)
  where
    by : (b : Bool) → is_among m others ≡ b → (is_among n (m ∷ []) ≡ true) ⊎ (is_among n ms ≡ true)
        → (is_among n ms ≡ true → (is_among n (names_once others ms) ≡ true) ⊎ (is_among n others ≡ true))
        → (is_among n ms ≡ true → (is_among n (names_once (m ∷ others) ms) ≡ true) ⊎ (is_among n (m ∷ others) ≡ true))
        → (is_among n (if b then names_once others ms else m ∷ names_once (m ∷ others) ms) ≡ true) ⊎ (is_among n others ≡ true)
    by true is which f g = elim which [
      | inl e ↦ inr (subst (λ k. is_among k others ≡ true) ((bytes_eq-Decides m n).0 (is_head n m e)) is)
      | inr e ↦ f e
    ]
    by false is which f g = elim which [
      | inl e ↦ inl (head_among n m (names_once (m ∷ others) ms) (is_head n m e))
      | inr e ↦ elim (g e) [
        | inl q ↦ inl (tail_among n m (names_once (m ∷ others) ms) q)
        | inr q ↦ elim (among_either n (m ∷ []) others q) [
          | inl k ↦ inl (head_among n m (names_once (m ∷ others) ms) (is_head n m k))
          | inr k ↦ inr k
        ]
      ]
    ]

-- ---- documents one by one

-- the names so far, and one more
pub next_names : (names : List (String Global)) (i : ℕ) (name : String Global) → i < length names → name ≡ get_or names i name
    → map string_bytes (take (i + 1) names) ≡ map string_bytes (take i names) ++ string_bytes name ∷ []
next_names names i name within is =
    ap (map string_bytes) (take_more names i name within ∙ ap (λ n. take i names ++ n ∷ []) (sym is)) ∙ map-append string_bytes (take i names) (name ∷ [])

-- a set that has the others and the names so far
abbrev pub Names : Type 0
Names = BTreeSet (Bor (List ℕ))

abbrev pub HasDone : List (List ℕ) → List (List ℕ) → Names → Type 0
HasDone others ns done = (n : List ℕ) → contains_name done n ≡ (is_among n others || is_among n ns)

-- .. that has one name more
pub inserted : (old now : Names) (key : Bor (List ℕ)) (name : List ℕ) → key.now ≡ name → UpdatesBy (λ x y. slice_cmp nat_cmp x.now y.now) (λ k. slice_cmp nat_cmp key.now k.now) old now true
    → (n : List ℕ) → contains_name now n ≡ cond (bytes_eq name n) true (contains_name old n)
inserted old now key name same h n =
    h.0 (record { ref_ptr = (0, 0); now = n }) ∙ ap (λ b. cond b true (contains_name old n)) (is_eq-slice_cmp key.now n ∙ ap (λ m. bytes_eq m n) same)

-- .. or had it
pub had : (done : Names) (name : List ℕ) → contains_name done name ≡ true → (n : List ℕ) → contains_name done n ≡ cond (bytes_eq name n) true (contains_name done n)
had done name is n = by (bytes_eq name n) (λ e. subst (λ m. contains_name done m ≡ true) ((bytes_eq-Decides name n).0 e) is)
  where
    by : (b : Bool) → (b ≡ true → contains_name done n ≡ true) → contains_name done n ≡ cond b true (contains_name done n)
    by true f = f refl
    by false f = refl

among_next : (same among front : Bool) → cond same true (among || front) ≡ (among || (front || (if same then true else false)))
among_next true true front = refl
among_next true false true = refl
among_next true false false = refl
among_next false true front = refl
among_next false false true = refl
among_next false false false = refl

pub done_next : (others : List (List ℕ)) (names : List (String Global)) (i : ℕ) (name : String Global) (old now : Names) → i < length names → name ≡ get_or names i name
    → HasDone others (map string_bytes (take i names)) old → ((n : List ℕ) → contains_name now n ≡ cond (bytes_eq (string_bytes name) n) true (contains_name old n))
    → HasDone others (map string_bytes (take (i + 1) names)) now
done_next others names i name old now within is has then_has n =
    let front = map string_bytes (take i names) in
    then_has n
    ∙ ap (λ b. cond (bytes_eq (string_bytes name) n) true b) (has n)
    ∙ among_next (bytes_eq (string_bytes name) n) (is_among n others) (is_among n front)
    ∙ ap (λ b. is_among n others || b) (sym (ap (is_among n) (next_names names i name within is) ∙ among_append n front (string_bytes name ∷ [])))

-- what is sent of one document more
pub sends_next : (p : Publisher) (w : Workspace) (others : List (List ℕ)) (names : List (String Global)) (i : ℕ) (name : String Global) (start now next : Outgoing)
    → i < length names → name ≡ get_or names i name → now ≡ with_all start (messages_in p w (names_once others (map string_bytes (take i names))))
    → (among : Bool) → among ≡ (is_among (string_bytes name) others || is_among (string_bytes name) (map string_bytes (take i names)))
    → next ≡ with_all now (messages_in p w (unless among (string_bytes name)))
    → next ≡ with_all start (messages_in p w (names_once others (map string_bytes (take (i + 1) names))))
sends_next p w others names i name start now next within is before among known more =
    let front = map string_bytes (take i names) in
    let n = string_bytes name in
    let here = is_among n others || is_among n front in
    more
    ∙ ap (λ b. with_all now (messages_in p w (unless b n))) known
    ∙ ap (λ o. with_all o (messages_in p w (unless here n))) before
    ∙ with_twice start (messages_in p w (names_once others front)) (messages_in p w (unless here n))
    ∙ ap (with_all start) (sym (messages_join p w (names_once others front) (unless here n)))
    ∙ ap (λ ns. with_all start (messages_in p w ns)) (sym (ap (names_once others) (next_names names i name within is) ∙ once_more others front n))

-- where the list that is reported is another, a name is among those of which it is
pub is_other : {A : Type 0} (before now : List ℕ → List A) (names : List (List ℕ)) (n : List ℕ) → (is_among n names ≡ false → now n ≡ before n) → (now n ≡ before n → ⊥) → is_among n names ≡ true
is_other before now names n same differs = by (is_among n names) same
  where
    by : (b : Bool) → (b ≡ false → now n ≡ before n) → b ≡ true
    by true f = refl
    by false f = absurd (differs (f refl))

-- ---- what is published in part

-- the server after that, when w is what is reported: what is to be published is something else
abbrev pub with_found : Server → Workspace → NameList → NameList → Server
with_found s w unpublished edited = record s { workspace = w; unpublished = unpublished; edited = edited }

-- what is found then between other markers
abbrev pub AreBetweenIn : Server → Workspace → List (List ℕ) → Faults → Type 0
AreBetweenIn s w names faults = AreFaultsFor s.settings (map string_bytes s.folders.items) w names faults

-- those that are due, when all of them are published anyhow
pub due_anyhow : (s : Server) → unpublished_of s ≡ [] → due_of s ≡ edited_of s ++ renewed_of s.sites
due_anyhow s none = ap (λ us. (edited_of s ++ us) ++ renewed_of s.sites) none ∙ ap (λ ns. ns ++ renewed_of s.sites) (append-nil (edited_of s))

-- those of two lists are among those of three
pub among_outer : (n : List ℕ) (xs ys zs : List (List ℕ)) → is_among n (xs ++ zs) ≡ true → is_among n ((xs ++ ys) ++ zs) ≡ true
among_outer n xs ys zs h = elim (among_either n xs zs h) [
  | inl e ↦ among_left n (xs ++ ys) zs (among_left n xs ys e)
  | inr e ↦ among_right n (xs ++ ys) zs e
]

-- .. so they are still due, when others are to be published after them
still_due : (s : Server) (others : NameList) (n : List ℕ) → unpublished_of s ≡ [] → is_among n (due_of s) ≡ true
    → is_among n ((edited_of s ++ names_of others) ++ renewed_of s.sites) ≡ true
still_due s others n none h = among_outer n (edited_of s) (names_of others) (renewed_of s.sites) (subst (λ ns. is_among n ns ≡ true) (due_anyhow s none) h)

-- .. and what was edited is among them
edited_due : (s : Server) (n : List ℕ) → is_among n (edited_of s) ≡ true → is_among n (due_of s ++ []) ≡ true
edited_due s n h =
    among_left n (due_of s) [] (among_left n (edited_of s ++ unpublished_of s) (renewed_of s.sites) (among_left n (edited_of s) (unpublished_of s) h))

without_more : (s : Server) (n : List ℕ) → is_among n (due_of s ++ []) ≡ true → is_among n (due_of s) ≡ true
without_more s n h = subst (λ ns. is_among n ns ≡ true) (append-nil (due_of s)) h

-- none of those that were due were published, and nothing else is reported than before
pub part_none : (s : Server) (w : Workspace) (others : NameList) (old : Outgoing) → unpublished_of s ≡ [] →
    (IsKept s.workspace → (n : List ℕ) → (reported_of_name w n ≡ reported_of_name s.workspace n → ⊥) → is_among n (names_of others) ≡ true) →
    ArePublishedInPart s (with_found s w others s.edited) old old
part_none s w others old none are = record {
  names = [];
  named = [];
  around = around_same s.sites;
  faults = λ n. [];
  between = none_found s.settings (map string_bytes s.folders.items) w (λ n. []) (λ n. refl);
  sent = sym (with_none old);
  others = are;
  due = λ n h. inr (still_due s others n none (without_more s n h));
  only = λ n h. absurd (cc);
}

-- some of those that were due were published
pub part_due : (s : Server) (w : Workspace) (others : NameList) (faults : Faults) (old now : Outgoing) → unpublished_of s ≡ [] →
    AreBetweenIn s w (edited_of s ++ names_of others) faults →
    (IsKept s.workspace → AreOthers (names_of others) (reported_of_name s.workspace) (reported_of_name w)) →
    SendsFirst (λ ns. messages_in (publisher_of s faults) w (names_once (names_of others) ns)) (edited_of s) old now →
    ArePublishedInPart s (with_found s w others s.edited) old now
part_due s w others faults old now none between are (first, rest, whole, sent) = record {
  names = names_once (names_of others) first;
  named = [];
  around = around_same s.sites;
  faults = faults;
  between = of_fewer s.settings (map string_bytes s.folders.items) w (edited_of s ++ names_of others) (names_once (names_of others) first) faults
      (λ n h. among_left n (edited_of s) (names_of others) (subst (λ ns. is_among n ns ≡ true) (sym whole) (among_left n first rest (among_once n (names_of others) first h)))) between;
  sent = sent;
  others = λ kept n differs. is_other (reported_of_name s.workspace) (reported_of_name w) (names_of others) n ((are kept).same n) differs;
  due = λ n h. inr (still_due s others n none (without_more s n h));
  only = λ n h. inl (edited_due s n (subst (λ ns. is_among n ns ≡ true) (sym whole) (among_left n first rest (among_once n (names_of others) first h))));
}

-- in two parts
joined : (p : Publisher) (w : Workspace) (old next now : Outgoing) (due others : List (List ℕ)) →
    next ≡ with_all old (messages_in p w due) → now ≡ with_all next (messages_in p w others) →
    now ≡ with_all old (messages_in p w (due ++ others))
joined p w old next now due others more sent =
    let messages = messages_in p w in
    sent
    ∙ ap (λ o. with_all o (messages others)) more
    ∙ with_twice old (messages due) (messages others)
    ∙ ap (with_all old) (sym (messages_join p w due others))

-- .. all of them, and some of those of which something else is reported
pub part_others : (s : Server) (w : Workspace) (others edited : NameList) (faults : Faults) (old next now : Outgoing) → unpublished_of s ≡ [] →
    AreBetweenIn s w (edited_of s ++ names_of others) faults →
    (IsKept s.workspace → AreOthers (names_of others) (reported_of_name s.workspace) (reported_of_name w)) →
    next ≡ with_all old (messages_in (publisher_of s faults) w (names_once (names_of others) (edited_of s))) →
    SendsFirst (λ ns. messages_in (publisher_of s faults) w (names_once [] ns)) (names_of others) next now →
    ArePublishedInPart s (with_found s w others edited) old now
part_others s w others edited faults old next now none between are more (first, rest, whole, sent) =
    let all = names_once (names_of others) (edited_of s) in
    let some = names_once [] first in
    record {
      names = all ++ some;
      named = [];
      around = around_same s.sites;
      faults = faults;
      between = of_fewer s.settings (map string_bytes s.folders.items) w (edited_of s ++ names_of others) (all ++ some) faults
          (λ n h. elim (among_either n all some h) [
            | inl e ↦ among_left n (edited_of s) (names_of others) (among_once n (names_of others) (edited_of s) e)
            | inr e ↦ among_right n (edited_of s) (names_of others) (subst (λ ns. is_among n ns ≡ true) (sym whole) (among_left n first rest (among_once n [] first e)))
          ]) between;
      sent = joined (publisher_of s faults) w old next now all some more sent;
      others = λ kept n differs. is_other (reported_of_name s.workspace) (reported_of_name w) (names_of others) n ((are kept).same n) differs;
      due = λ n h. elim (among_either n (edited_of s) (renewed_of s.sites) (subst (λ ns. is_among n ns ≡ true) (due_anyhow s none) (without_more s n h))) [
        | inl e ↦ elim (once_or_among n (names_of others) (edited_of s) e) [
          | inl q ↦ inl (among_left n all some q)
          | inr q ↦ inr (among_left n (names_of edited ++ names_of others) (renewed_of s.sites) (among_right n (names_of edited) (names_of others) q))
        ]
        | inr e ↦ inr (among_right n (names_of edited ++ names_of others) (renewed_of s.sites) e)
      ];
      only = λ n h. elim (among_either n all some h) [
        | inl e ↦ inl (edited_due s n (among_once n (names_of others) (edited_of s) e))
        | inr e ↦ inr (subst (λ ns. is_among n ns ≡ true) (sym whole) (among_left n first rest (among_once n [] first e)))
      ];
    }

-- nothing else changes
pub reports_found : (s : Server) (w : Workspace) (unpublished edited : NameList) → w.documents ≡ s.workspace.documents → w.encoding ≡ s.workspace.encoding → (IsKept s.workspace → IsKept w)
    → OnlyReports s (with_found s w unpublished edited)
reports_found s w unpublished edited documents encoding kept = record {
  same = refl;
  documents = λ n. ap (λ ds. document_of ds n) documents;
  encoding = encoding;
  kept = kept;
  given = λ g. g;
}

-- what fits the documents fits them as they were checked again
fits_on : (x : KeptSiteVal) (v w : Workspace) → w.documents ≡ v.documents → templates_of w.judged.items ≡ templates_of v.judged.items → FitsWorkspace x v → FitsWorkspace x w
fits_on x v w documents templates fits =
    subst (λ ts. FitsTemplates x w.documents ts) (sym templates) (subst (λ ds. FitsTemplates x ds (templates_of v.judged.items)) (sym documents) fits)

-- all
pub published_whole : (s : Server) (w : Workspace) (others unpublished edited : NameList) (faults : Faults) (old next now : Outgoing) →
    AreBetweenIn s w (edited_of s ++ names_of others) faults → (IsKept s.workspace → AreRead s.workspace → IsSettled w) → (IsKept s.workspace → AreRead s.workspace → AreRead w) →
    (IsKept s.workspace → AreOthers (names_of others) (reported_of_name s.workspace) (reported_of_name w)) →
    w.documents ≡ s.workspace.documents → templates_of w.judged.items ≡ templates_of s.workspace.judged.items →
    next ≡ with_all old (messages_in (publisher_of s faults) w (names_once (names_of others) (edited_of s))) →
    now ≡ with_all next (messages_in (publisher_of s faults) w (names_once [] (names_of others))) → names_of unpublished ≡ [] → names_of edited ≡ [] →
    ArePublishedAsRead s (with_found s w unpublished edited) old now
published_whole s w others unpublished edited faults old next now between settled read are documents templates more sent no_unreported no_edited = record {
  settled = settled;
  read = read;
  fits = λ h k d within. fits_on (slice_index_or s.sites.all.items k d).site s.workspace w documents templates (h k d within);
  others = names_of others;
  are = are;
  faults = faults;
  between = of_fewer s.settings (map string_bytes s.folders.items) w (edited_of s ++ names_of others)
      (names_once (names_of others) (edited_of s) ++ names_once [] (names_of others)) faults
      (λ n h. elim (among_either n (names_once (names_of others) (edited_of s)) (names_once [] (names_of others)) h) [
        | inl e ↦ among_left n (edited_of s) (names_of others) (among_once n (names_of others) (edited_of s) e)
        | inr e ↦ among_right n (edited_of s) (names_of others) (among_once n [] (names_of others) e)
      ]) between;
  sent = joined (publisher_of s faults) w old next now (names_once (names_of others) (edited_of s)) (names_once [] (names_of others)) more sent;
  unpublished = no_unreported;
  edited = no_edited;
}

-- what holds anyhow holds of an error
pub on_any_err : {T E P : Type 0} (r : Result T E) → P → OnErr r P
on_any_err (Ok v) h = tt
on_any_err (Err e) h = h
