-- What a server was reported, and what was written of it, one step more.
use Rattle.std.proofs.Common.{◌≡◌, ◌⊎◌, ◌∙◌, ◌<◌, ◌≤◌, ◌+◌, Bool, true, false, ◌++◌, ◌∷◌, [], inl, inr, ℕ, List, String, string_bytes, length, get_or, take, drop, Result, Ok, Err, IfOk, OnOk, OnErr, map, Option, None, Some, refl, sym, ap, subst, append_assoc}
use Rattle.std.specs.Io.KnownBytes.{Appends, Consumes, IsAtEnd}
use Rattle.std.specs.List.{flat_map}
use Rattle.std.specs.Option.{option_map, option_to_list}
use Rattle.std.specs.declared.alloc.Global.{Global}
use Rattle.std.proofs.lemmas.List.{append-nil, map_push, map-append, take_more, take_all, take-append-drop}
use Rattle.std.proofs.lemmas.List.Concat.{flat_map-append}
use Rattle.json_rpc.specs.Outgoing.{Outgoing, nothing}
use Rattle.message_frames.specs.Held.{Held}
use Rattle.message_frames.specs.Shown.{Shown, Message, Wait, shown, frame_of}
use Rattle.message_frames.specs.Representing.{Represents, IsNext}
use Rattle.message_frames.specs.Stream.{Item, Begins, IsPartial}
use Rattle.message_frames.specs.Writing.{frame}
use Rattle.message_frames.specs.declared.framing.Frame.{Frame}
use Rattle.message_frames.specs.declared.framing.Frame.TheVariants as frames
use Rattle.message_frames.proofs.Splitting.{begins_on, begins_grow, nothing_partial}
use Rattle.message_frames.proofs.Taking.{never_waits, no_wait}
use Rattle.tera_server.specs.Configuring.{IsUnconfigured}
use Rattle.tera_server.specs.Sending.{unpublished_of}
use Rattle.tera_server.specs.Settling.{due_of, ArePublishedInPart, IsSettling}
use Rattle.tera_server.specs.declared.server.Ended.{Ended}
use Rattle.tera_server.specs.declared.server.Phase.{Phase}
use Rattle.tera_server.specs.declared.server.Phase.TheVariants.{New, Running, ShutDown}
use Rattle.tera_server.specs.Steps.{ended_at}
use Rattle.tera_server.specs.States.{text_on, why_on, is_there, IsLoadedAs, IsNotLoaded, edited_of, needed_of, needed_view, KeepsReported}
use Rattle.tera_editor.specs.KnownFiles.{IsKnownAs}
use Rattle.tera_editor.specs.Sites.{NoneDue}
use Rattle.tera_server.specs.declared.server.OnDisk.{OnDisk}
use Rattle.tera_server.specs.declared.server.Server.{Server}
use Rattle.tera_server.specs.declared.server.Needed.{Needed}
use Rattle.tera_exchange.specs.Serving.{Takes, Settles, IsNew, IsAsked, IsLoaded, IsUnloaded, AreLoaded, AreLoadedInPart, LoadedNone, LoadedNext, Gives, GaveNames, AreNamesSaid, Publishes, PublishesAll, Talks, Silent, Took, Settled, Given, Rounds, NoRound, NextRound, or_short, IsAtRest, IsOver, IsServedBy, IsTalking, ended_of, IsLeft, IsWaiting, Rests}
use Rattle.tera_exchange.specs.declared.server.Left.{Left}
use Rattle.tera_exchange.specs.declared.server.Left.TheVariants as lefts
use Rattle.tera_show.proofs.Known.{appends_more}
use Rattle.tera_exchange.proofs.SendLemmas.{appends_none}

pub consumes_none : (a : Option (List ℕ)) → Consumes a a []
consumes_none None = tt
consumes_none (Some l) = refl

pub consumes_more : (a b c : Option (List ℕ)) (xs ys : List ℕ) → Consumes a b xs → Consumes b c ys → Consumes a c (xs ++ ys)
consumes_more None b c xs ys first second = tt
consumes_more (Some l) None c xs ys first second = absurd first
consumes_more (Some l) (Some k) None xs ys first second = absurd second
consumes_more (Some l) (Some k) (Some j) xs ys first second = first ∙ ap (λ t. xs ++ t) second ∙ sym (append_assoc xs ys j)

-- what is asked for was taken
pub asked_for : (w : Option Needed) (x : Needed) (s t : Server) → w ≡ Some x → needed_of s ≡ needed_of t ++ option_to_list (option_map needed_view w) → t ≡ record s { needed = t.needed } →
    IsAsked (Some (needed_view x)) s t
asked_for w x s t is needed same =
    record { needed = needed ∙ ap (λ v. needed_of t ++ option_to_list (option_map needed_view v)) is; none = λ e. cc; same = same }

pub asked_nothing : (w : Option Needed) (s t : Server) → w ≡ None → needed_of s ≡ needed_of t ++ option_to_list (option_map needed_view w) → (w ≡ None → needed_of s ≡ []) →
    t ≡ record s { needed = t.needed } → IsAsked None s t
asked_nothing w s t is needed none same =
    record { needed = needed ∙ ap (λ v. needed_of t ++ option_to_list (option_map needed_view v)) is; none = λ e. none is; same = same }

-- some of them were loaded, and one more is
pub loaded_next : (s t u : Server) (files : List (String Global)) (i : ℕ) (file : String Global) → i < length files → file ≡ get_or files i file →
    AreLoaded s (map string_bytes (take i files)) t → IsLoaded (string_bytes file) t u → AreLoaded s (map string_bytes (take (i + 1) files)) u
loaded_next s t u files i file within is had loaded =
    let longer : take (i + 1) files ≡ take i files ++ file ∷ [] = take_more files i file within ∙ ap (λ n. take i files ++ n ∷ []) (sym is) in
    subst (λ paths. AreLoaded s paths u) (sym (ap (map string_bytes) longer ∙ map-append string_bytes (take i files) (file ∷ [])))
    (LoadedNext (map string_bytes (take i files)) (string_bytes file) t u had loaded)

-- .. so all of them were
pub all_loaded : (s t : Server) (files : List (String Global)) (i : ℕ) (paths : List (List ℕ)) → length files ≤ i → map string_bytes files ≡ paths →
    AreLoaded s (map string_bytes (take i files)) t → AreLoaded s paths t
all_loaded s t files i paths end are loaded = subst (λ ps. AreLoaded s ps t) (ap (map string_bytes) (take_all i files end) ∙ are) loaded

-- .. or an allocation failed for the next one
pub loaded_in_part : (s u t : Server) (files : List (String Global)) (i : ℕ) (path : List ℕ) (paths : List (List ℕ)) → map string_bytes files ≡ paths →
    AreLoaded s (map string_bytes (take i files)) u → IsUnloaded path u t → AreLoadedInPart paths s t
loaded_in_part s u t files i path paths are loaded unloaded = (
  map string_bytes (take i files),
  map string_bytes (drop i files),
  sym (map-append string_bytes (take i files) (drop i files)) ∙ (ap (map string_bytes) (take-append-drop i files) ∙ are),
  u,
  loaded,
  inr (path, unloaded),
)

-- .. or for any
pub none_loaded : (paths : List (List ℕ)) (s : Server) → AreLoadedInPart paths s s
none_loaded paths s = ([], paths, refl, s, LoadedNone, inl refl)

-- a text was loaded
pub is_loaded : {T E : Type 0} (r : Result T E) (path : List ℕ) (found : OnDisk) (s t : Server) → KeepsReported s t →
    t ≡ record s { workspace = t.workspace; known = t.known; unread = t.unread; edited = t.edited } →
    OnOk r (IsLoadedAs path (text_on found) (why_on found) s t) → OnOk r (IsKnownAs path (is_there found) s.known t.known) → OnOk r (IsLoaded path s t)
is_loaded (Ok v) path found s t stays same loaded known = record { found = found; loaded = loaded; known = known; same = same; stays = stays }
is_loaded (Err e) path found s t stays same loaded known = tt

-- .. or an allocation failed for it
pub is_unloaded : {T E : Type 0} (r : Result T E) (path : List ℕ) (s t : Server) → KeepsReported s t →
    t ≡ record s { workspace = t.workspace; known = t.known; unread = t.unread; edited = t.edited } → OnErr r (IsNotLoaded path s t) → OnErr r (IsUnloaded path s t)
is_unloaded (Ok v) path s t stays same unchanged = tt
is_unloaded (Err e) path s t stays same unchanged = record { not_loaded = unchanged; same = same; stays = stays }

-- .. or to read its file
pub unloaded : (path : List ℕ) (s : Server) → IsUnloaded path s s
unloaded path s = record {
  not_loaded = record { documents = λ n. refl; unread = λ n e. refl; known = λ n e. refl; edited = inl refl };
  same = refl;
  stays = record { encoding = refl; reported = λ n. refl; kept = λ k. k };
}

-- .. or to find settings
pub unconfigured : (s : Server) → IsUnconfigured s s
unconfigured s = record { same = refl; edited = ([], sym (append-nil (edited_of s))); unpublished = ([], sym (append-nil (unpublished_of s))); markers = refl; given = λ g. g }

-- a folder that is not read is not open
pub unopened : (opened read : Bool) → (opened ≡ true → read ≡ true) → read ≡ false → opened ≡ false
unopened true read is not = cc (is refl, not)
unopened false read is not = refl

-- what follows from a result
pub on_ok : {T E P Q : Type 0} (r : Result T E) → (P → Q) → OnOk r P → OnOk r Q
on_ok (Ok v) f h = f h
on_ok (Err e) f h = tt

pub on_err : {T E P Q : Type 0} (r : Result T E) → (P → Q) → OnErr r P → OnErr r Q
on_err (Ok v) f h = tt
on_err (Err e) f h = f h

-- no whole message is left, and none ended the exchange
record Waits (limit : ℕ) (s t : Server) (bytes : List ℕ) (held : Held) (old new : Option (List ℕ)) : Type 0 where
  pub talking : IsTalking limit None s t bytes held old new
  pub partial : IsPartial talking.rest

-- of these bytes none is taken yet
pub talk_begun : (limit : ℕ) (s : Server) (bytes : List ℕ) (held : Held) (old : Option (List ℕ)) → Represents held bytes → IsTalking limit None s s bytes held old old
talk_begun limit s bytes held old represents =
    record { items = []; rest = bytes; sent = []; begins = refl; represents = represents; talked = Silent; written = appends_none old }

-- what is sent is written after the rest
written_on : (a b c : Option (List ℕ)) (sent more : List (List ℕ)) → Appends a b (flat_map frame sent) → Appends b c (flat_map frame more) → Appends a c (flat_map frame (sent ++ more))
written_on a b c sent more before wrote =
    appends_more a b c (flat_map frame sent) (flat_map frame more) (flat_map frame (sent ++ more)) before wrote (sym (flat_map-append frame sent more))

-- an item was taken
talk_on : (limit : ℕ) (s t u : Server) (bytes : List ℕ) (held now : Held) (old mid new : Option (List ℕ)) (next : Shown) (ended : Option Ended) (out : Outgoing) →
    (k : IsTalking limit None s t bytes held old mid) → (next ≡ Wait → ⊥) → IsNext limit k.rest next now →
    Takes t next ended u out → Appends mid new (flat_map frame out.sent) → IsTalking limit ended s u bytes now old new
talk_on limit s t u bytes held now old mid new next ended out k some (None, is, takes) does wrote = absurd (some is)
talk_on limit s t u bytes held now old mid new next ended out k some (Some item, is, (text, rest, whole, is_text, represents)) does wrote = record {
  items = k.items ++ item ∷ [];
  rest = rest;
  sent = k.sent ++ out.sent;
  begins = begins_on k.items (item ∷ []) bytes k.rest rest k.begins (text, rest, whole, is_text, refl);
  represents = represents;
  talked =
      subst (λ fs. Talks s fs (k.sent ++ out.sent) ended u) (ap (λ f. map (frame_of limit) k.items ++ f ∷ []) is ∙ sym (map_push (frame_of limit) k.items item))
      (Took (map (frame_of limit) k.items) k.sent t u next ended out k.talked does);
  written = written_on old mid new k.sent out.sent k.written wrote;
}

-- .. for which memory was found
pub talk_took : (limit : ℕ) (s t u : Server) (bytes : List ℕ) (held now : Held) (old mid new : Option (List ℕ)) (next : Frame) (ended : Option Ended) (out : Outgoing) →
    IsTalking limit None s t bytes held old mid → (next ≡ frames.Wait → ⊥) → ((rest : List ℕ) → Represents held rest → IsNext limit rest (shown next) now) →
    Takes t (shown next) ended u out → Appends mid new (flat_map frame out.sent) → IsTalking limit ended s u bytes now old new
talk_took limit s t u bytes held now old mid new next ended out k some is does wrote =
    talk_on limit s t u bytes held now old mid new (shown next) ended out k (no_wait next some) (is k.rest k.represents) does wrote

-- .. or was not: a message was passed over
pub talk_missed : (limit : ℕ) (s t u : Server) (bytes : List ℕ) (held now : Held) (old mid new : Option (List ℕ)) (out : Outgoing) →
    IsTalking limit None s t bytes held old mid → ((rest : List ℕ) → Represents held rest → (message : List ℕ) × IsNext limit rest (Message message) now) →
    ((message : List ℕ) → Takes t (Message message) None u out) → Appends mid new (flat_map frame out.sent) → IsTalking limit None s u bytes now old new
talk_missed limit s t u bytes held now old mid new out k skipped does wrote =
    let (message, is) = skipped k.rest k.represents in
    talk_on limit s t u bytes held now old mid new (Message message) None out k (λ e. cc) is (does message) wrote

-- it ended the exchange
pub talk_ended : (limit : ℕ) (s t : Server) (bytes : List ℕ) (held : Held) (old new : Option (List ℕ)) (ended : Option Ended) (finished : Ended) → ended ≡ Some finished →
    IsTalking limit ended s t bytes held old new → IsWaiting limit (lefts.Ended finished) s t bytes held old new
talk_ended limit s t bytes held old new ended finished is k =
    record { talking = subst (λ e. IsTalking limit e s t bytes held old new) is k; partial = λ e. cc; done = tt }

-- it did not
pub talk_goes_on : (limit : ℕ) (s t : Server) (bytes : List ℕ) (held : Held) (old new : Option (List ℕ)) (ended : Option Ended) → ended ≡ None →
    IsTalking limit ended s t bytes held old new → IsTalking limit None s t bytes held old new
talk_goes_on limit s t bytes held old new ended none k = subst (λ e. IsTalking limit e s t bytes held old new) none k

-- the same by other words for the server, what is held, and what was written
pub talk_same : (limit : ℕ) (s t u : Server) (bytes : List ℕ) (held now : Held) (old mid new : Option (List ℕ)) → u ≡ t → now ≡ held → new ≡ mid →
    IsTalking limit None s t bytes held old mid → IsTalking limit None s u bytes now old new
talk_same limit s t u bytes held now old mid new server frames written k =
    subst (λ u. IsTalking limit None s u bytes now old new) (sym server)
    (subst (λ h. IsTalking limit None s t bytes h old new) (sym frames) (subst (λ w. IsTalking limit None s t bytes held old w) (sym written) k))

-- files were given
pub talk_given : (limit : ℕ) (s t u : Server) (bytes : List ℕ) (held : Held) (old new : Option (List ℕ)) →
    IsTalking limit None s t bytes held old new → Gives t u → IsTalking limit None s u bytes held old new
talk_given limit s t u bytes held old new k gives = record {
  items = k.items;
  rest = k.rest;
  sent = k.sent;
  begins = k.begins;
  represents = k.represents;
  talked = Given (map (frame_of limit) k.items) k.sent t u k.talked gives;
  written = k.written;
}

-- no whole message waits
talk_settled : (limit : ℕ) (s t u : Server) (bytes : List ℕ) (held now : Held) (old mid new : Option (List ℕ)) (out : Outgoing) →
    (k : IsTalking limit None s t bytes held old mid) → ((rest : List ℕ) → Represents held rest → IsNext limit rest Wait now) →
    Settles t u out → Appends mid new (flat_map frame out.sent) → Waits limit s u bytes now old new
talk_settled limit s t u bytes held now old mid new out k is does wrote = by (is k.rest k.represents)
  where
    by : IsNext limit k.rest Wait now → Waits limit s u bytes now old new
    by (None, e, (partial, represents)) = record {
      talking = record {
        items = k.items;
        rest = k.rest;
        sent = k.sent ++ out.sent;
        begins = k.begins;
        represents = represents;
        talked = Settled (map (frame_of limit) k.items) k.sent t u out k.talked does;
        written = written_on old mid new k.sent out.sent k.written wrote;
      };
      partial = partial;
    }
    by (Some item, e, takes) = absurd (never_waits limit item e)

-- .. and the exchange comes to rest
pub talk_rests : (limit : ℕ) (left : Left) (s t u : Server) (bytes : List ℕ) (held now : Held) (old mid new : Option (List ℕ)) →
    IsTalking limit None s t bytes held old mid → ((rest : List ℕ) → Represents held rest → IsNext limit rest Wait now) →
    Rests left t u mid new → IsWaiting limit left s u bytes now old new
talk_rests limit left s t u bytes held now old mid new k is r =
    by left r.goes_on r.done (talk_settled limit s r.mid u bytes held now old mid new r.sent (talk_given limit s t r.mid bytes held old mid k r.given) is r.settled r.written)
  where
    by : (left : Left) → ended_of left ≡ None → IsLeft left u → Waits limit s u bytes now old new → IsWaiting limit left s u bytes now old new
    by (lefts.Ended finished) none done w = cc
    by lefts.AtRest none done w = record { talking = w.talking; partial = λ e. w.partial; done = done }
    by lefts.Short none done w = record { talking = w.talking; partial = λ e. w.partial; done = done }

-- .. where what is sent was written
pub waits_where_ok : {E : Type 0} (r : Result Left E) (limit : ℕ) (s t u : Server) (first held now : Held) (old mid new : Option (List ℕ)) →
    ((start : Server) (bytes : List ℕ) (began : Option (List ℕ)) → IsTalking limit None start s bytes first began old → IsTalking limit None start t bytes held began mid) →
    ((rest : List ℕ) → Represents held rest → IsNext limit rest Wait now) → IfOk r (λ left. Rests left t u mid new) →
    IfOk r (λ left. (start : Server) (bytes : List ℕ) (began : Option (List ℕ)) → IsTalking limit None start s bytes first began old → IsWaiting limit left start u bytes now began new)
waits_where_ok (Ok left) limit s t u first held now old mid new before is rests =
    λ start bytes began k. talk_rests limit left start t u bytes held now began mid new (before start bytes began k) is rests
waits_where_ok (Err e) limit s t u first held now old mid new before is rests = tt

-- findings are published, after what is said of names: all of them
pub published_all : (s mid t : Server) (out sent : Outgoing) → AreNamesSaid s mid → (s.phase ≡ Running → NoneDue mid.sites ⊎ NoneDue t.sites) → out ≡ nothing →
    IsSettling mid.phase mid t out sent → PublishesAll s t sent
published_all s mid t out sent said none is settled =
    record { mid = mid; said = said; all_said = none; settled = subst (λ o. IsSettling mid.phase mid t o sent) is settled }

-- .. whether or not all was said
pub published : (s mid t : Server) (out sent : Outgoing) → AreNamesSaid s mid → out ≡ nothing → IsSettling mid.phase mid t out sent → Publishes s t sent
published s mid t out sent said is settled = record { mid = mid; said = said; settled = (true, subst (λ o. IsSettling mid.phase mid t o sent) is settled) }

-- .. or a part of them
pub published_in_part : (s mid t : Server) (out sent : Outgoing) → AreNamesSaid s mid → out ≡ nothing → ArePublishedInPart mid t out sent → Publishes s t sent
published_in_part s mid t out sent said is part = record { mid = mid; said = said; settled = (false, subst (λ o. ArePublishedInPart mid t o sent) is part) }

-- a part failed to allocate
pub rests_short : (s mid t : Server) (sent : Outgoing) (old new : Option (List ℕ)) → Gives s mid → Publishes mid t sent → Appends old new (flat_map frame sent.sent) → Rests lefts.Short s t old new
rests_short s mid t sent old new given p written =
    record { mid = p.mid; sent = sent; given = GaveNames mid p.mid given p.said; settled = p.settled; written = written; goes_on = refl; done = tt }

nothing_due : (phase : Phase) (s t : Server) (sent : Outgoing) → s.phase ≡ phase → IsSettling phase s t nothing sent → t.phase ≡ Running → due_of t ≡ []
nothing_due New s t sent is (same, none) running = cc (sym is ∙ (sym (ap (λ (u : Server). u.phase) same) ∙ running))
nothing_due Running s t sent is p running = rw (p.edited, p.unpublished, p.renewed) refl
nothing_due ShutDown s t sent is (same, none) running = cc (sym is ∙ (sym (ap (λ (u : Server). u.phase) same) ∙ running))

-- nothing did
pub rests_all : (s mid t : Server) (sent : Outgoing) (old new : Option (List ℕ)) → Gives s mid → needed_of mid ≡ [] → PublishesAll mid t sent → t.needed ≡ mid.needed →
    Appends old new (flat_map frame sent.sent) → Rests lefts.AtRest s t old new
rests_all s mid t sent old new given none p same written = record {
  mid = p.mid;
  sent = sent;
  given = GaveNames mid p.mid given p.said;
  settled = (true, p.settled);
  written = written;
  goes_on = refl;
  done = record { given = ap (λ v. map needed_view v.items) same ∙ none; published = nothing_due p.mid.phase p.mid t sent refl p.settled };
}

-- ---- piece by piece

-- the pieces that were read are done with, and none of their messages ended the exchange
pub record IsReading (limit : ℕ) (short : Bool) (s t : Server) (bytes : List ℕ) (held : Held) (old new : Option (List ℕ)) : Type 0 where
  pub rest : List ℕ
  pub sent : List (List ℕ)
  pub rounds : Rounds limit s short None bytes rest sent t
  pub partial : IsPartial rest
  pub represents : Represents held rest
  pub written : Appends old new (flat_map frame sent)

-- nothing was read
pub reading_begun : (limit : ℕ) (s : Server) (held : Held) (old : Option (List ℕ)) → Represents held [] → IsReading limit false s s [] held old old
reading_begun limit s held old represents =
    record { rest = []; sent = []; rounds = NoRound; partial = nothing_partial; represents = represents; written = appends_none old }

-- one piece more
next_round : (limit : ℕ) (short : Bool) (left : Left) (s t u : Server) (bytes piece : List ℕ) (held now : Held) (old mid new : Option (List ℕ)) →
    (k : IsReading limit short s t bytes held old mid) → (w : IsWaiting limit left t u (k.rest ++ piece) now mid new) →
    Rounds limit s (or_short short left) (ended_of left) (bytes ++ piece) w.talking.rest (k.sent ++ w.talking.sent) u
next_round limit short left s t u bytes piece held now old mid new k w =
    NextRound short bytes k.rest piece w.talking.rest k.sent w.talking.sent t u left k.rounds
    (record { items = w.talking.items; begins = w.talking.begins; talked = w.talking.talked; partial = w.partial; done = w.done })

-- .. which does not end the exchange
pub reading_on : (limit : ℕ) (short : Bool) (left : Left) (s t u : Server) (bytes piece : List ℕ) (held now : Held) (old mid new : Option (List ℕ)) → ended_of left ≡ None →
    (k : IsReading limit short s t bytes held old mid) → IsWaiting limit left t u (k.rest ++ piece) now mid new →
    IsReading limit (or_short short left) s u (bytes ++ piece) now old new
reading_on limit short left s t u bytes piece held now old mid new none k w = record {
  rest = w.talking.rest;
  sent = k.sent ++ w.talking.sent;
  rounds =
      subst (λ e. Rounds limit s (or_short short left) e (bytes ++ piece) w.talking.rest (k.sent ++ w.talking.sent) u) none
      (next_round limit short left s t u bytes piece held now old mid new k w);
  partial = w.partial none;
  represents = w.talking.represents;
  written = written_on old mid new k.sent w.talking.sent k.written w.talking.written;
}

-- one exchange after another
talks_same : (s u : Server) (fs gs : List Shown) (ms ns : List (List ℕ)) (ended : Option Ended) → fs ≡ gs → ms ≡ ns → Talks s fs ms ended u → Talks s gs ns ended u
talks_same s u fs gs ms ns ended frames sent talked = subst (λ xs. Talks s xs ns ended u) frames (subst (λ xs. Talks s fs xs ended u) sent talked)

talks_on : (s t : Server) (front : List Shown) (sent : List (List ℕ)) → Talks s front sent None t → (frames : List Shown) (more : List (List ℕ)) (ended : Option Ended) (u : Server) →
    Talks t frames more ended u → Talks s (front ++ frames) (sent ++ more) ended u
talks_on s t front sent before frames more ended u Silent = talks_same s t front (front ++ []) sent (sent ++ []) None (sym (append-nil front)) (sym (append-nil sent)) before
talks_on s t front sent before frames more ended u (Took fs ms v w next end out talked takes) =
    talks_same s w ((front ++ fs) ++ next ∷ []) (front ++ (fs ++ next ∷ [])) ((sent ++ ms) ++ out.sent) (sent ++ (ms ++ out.sent)) end
    (append_assoc front fs (next ∷ [])) (append_assoc sent ms out.sent)
    (Took (front ++ fs) (sent ++ ms) v w next end out (talks_on s t front sent before fs ms None v talked) takes)
talks_on s t front sent before frames more ended u (Settled fs ms v w out talked settles) =
    talks_same s w (front ++ fs) (front ++ fs) ((sent ++ ms) ++ out.sent) (sent ++ (ms ++ out.sent)) None refl (append_assoc sent ms out.sent)
    (Settled (front ++ fs) (sent ++ ms) v w out (talks_on s t front sent before fs ms None v talked) settles)
talks_on s t front sent before frames more ended u (Given fs ms v w talked gives) =
    Given (front ++ fs) (sent ++ ms) v w (talks_on s t front sent before fs ms None v talked) gives

-- all pieces together
rounds_taken : (limit : ℕ) (s : Server) (short : Bool) (ended : Option Ended) (bytes rest : List ℕ) (sent : List (List ℕ)) (t : Server) → Rounds limit s short ended bytes rest sent t →
    (items : List Item) × Begins bytes items rest × Talks s (map (frame_of limit) items) sent ended t
rounds_taken limit s short ended bytes rest sent t NoRound = ([], refl, Silent)
rounds_taken limit s short ended bytes rest sent t (NextRound was came pending piece now had more v u left before round) =
    let (items, begins, talked) = rounds_taken limit s was None came pending had v before in (
      items ++ round.items,
      begins_on items round.items (came ++ piece) (pending ++ piece) now (begins_grow items came pending piece begins) round.begins,
      talks_same s u (map (frame_of limit) items ++ map (frame_of limit) round.items) (map (frame_of limit) (items ++ round.items)) (had ++ more) (had ++ more) (ended_of left)
          (sym (map-append (frame_of limit) items round.items)) refl
          (talks_on s v (map (frame_of limit) items) had talked (map (frame_of limit) round.items) more (ended_of left) u round.talked),
    )

left_done : (short : Bool) (left : Left) (t : Server) → ended_of left ≡ None → or_short short left ≡ false → IsLeft left t → IsAtRest t
left_done short (lefts.Ended finished) t none whole done = cc
left_done short lefts.AtRest t none whole done = done
left_done short lefts.Short t none whole done = cc

-- after the last piece nothing is left to be done
rounds_done : (limit : ℕ) (s : Server) → IsAtRest s → (short : Bool) (ended : Option Ended) (bytes rest : List ℕ) (sent : List (List ℕ)) (t : Server) →
    Rounds limit s short ended bytes rest sent t → ended ≡ None → short ≡ false → IsAtRest t
rounds_done limit s rests short ended bytes rest sent t NoRound none whole = rests
rounds_done limit s rests short ended bytes rest sent t (NextRound was came pending piece now had more v u left before round) none whole =
    left_done was left u none whole round.done

-- before the first nothing is
new_rests : (s : Server) → IsNew s → IsAtRest s
new_rests s new = record { given = new.none.0; published = λ running. rw (new.none.1, new.none.2, new.sites.1) refl }

served : (limit : ℕ) (finished : Ended) (short : Bool) (ended : Option Ended) (s t : Server) (bytes rest : List ℕ) (sent : List (List ℕ)) (read unread old new : Option (List ℕ)) →
    IsNew s → Consumes read unread bytes → Rounds limit s short ended bytes rest sent t → Appends old new (flat_map frame sent) → IsOver ended finished t rest unread →
    IsServedBy s limit finished short read unread old new
served limit finished short ended s t bytes rest sent read unread old new fresh came rounds written over =
    let (items, begins, talked) = rounds_taken limit s short ended bytes rest sent t rounds in (
      record {
        first = s;
        last = t;
        bytes = bytes;
        items = items;
        rest = rest;
        sent = sent;
        ended = ended;
        fresh = fresh;
        came = came;
        begins = begins;
        talked = talked;
        written = written;
        over = over;
        rounds = rounds;
        done = rounds_done limit s (new_rests s fresh) short ended bytes rest sent t rounds;
      },
      refl,
    )

-- a message ended it
pub served_ended : (limit : ℕ) (finished : Ended) (short : Bool) (s t u : Server) (bytes piece : List ℕ) (held now : Held) (read unread old mid new : Option (List ℕ)) → IsNew s →
    Consumes read unread (bytes ++ piece) → (k : IsReading limit short s t bytes held old mid) → IsWaiting limit (lefts.Ended finished) t u (k.rest ++ piece) now mid new →
    IsServedBy s limit finished short read unread old new
served_ended limit finished short s t u bytes piece held now read unread old mid new fresh came k w =
    served limit finished short (Some finished) s u (bytes ++ piece) w.talking.rest (k.sent ++ w.talking.sent) read unread old new fresh came
    (next_round limit short (lefts.Ended finished) s t u bytes piece held now old mid new k w)
    (written_on old mid new k.sent w.talking.sent k.written w.talking.written) refl

-- nothing more came
pub served_at_end : (limit : ℕ) (finished : Ended) (short : Bool) (s t : Server) (bytes more : List ℕ) (held : Held) (read unread old new : Option (List ℕ)) → IsNew s → Consumes read unread (bytes ++ more) →
    more ≡ [] → IsAtEnd unread → finished ≡ ended_at t.phase → IsReading limit short s t bytes held old new → IsServedBy s limit finished short read unread old new
served_at_end limit finished short s t bytes more held read unread old new fresh came none end is k =
    served limit finished short None s t bytes k.rest k.sent read unread old new fresh (subst (Consumes read unread) (ap (λ xs. bytes ++ xs) none ∙ append-nil bytes) came) k.rounds k.written
    (is, k.partial, end)
