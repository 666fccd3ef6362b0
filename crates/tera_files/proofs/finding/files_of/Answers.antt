use Rattle.std.proofs.Common.{◌≡◌, ◌≢◌, ◌<◌, ◌≤◌, ℕ, List, [], Bor, map, length, take, get_or, string_bytes, inl, inr, ⊎_elim, sym, ap, subst, arith}
use Rattle.std.specs.Prelude.{All, AllPairs, Any, Contains}
use Rattle.std.proofs.lemmas.List.{get_or-map, length-map, take_all}
use Rattle.tera_files.specs.Below.{IsUnlisted}
use Rattle.tera_files.specs.Finding.{AreOfAll, input}
use Rattle.tera_files.specs.Listing.{files_in}
use Rattle.tera_files.specs.Names.{texts}
use Rattle.tera_files.proofs.FindingLemmas.{found_more, input_more, reported_more}
use Rattle.tera_files.proofs.finding.files_of.Goals as goal

pub loop-path-preserved : goal.loop-path-preserved
loop-path-preserved g c =
    let held = c.loop-path.invariant in
    let i = c.loop-path.path-index in
    let none : Bor (List ℕ) = record { ref_ptr = (0, 0); now = [] } in
    let path = (get_or c.args.paths.now i none).now in
    let extensions = texts c.args.selection.extensions.now in
    let paths = texts c.args.paths.now in
    let below : i < length paths = rw length-map c.loop-path-test.true in
    let is : path ≡ get_or paths i path = sym (get_or-map (λ (text : Bor (List ℕ)). text.now) c.args.paths.now i none path c.loop-path-test.true) in
    let old = files_in c.loop-path.listing in
    let new = files_in c.add.new.listing in
    let said = c.in_ok-add.ensures in
    record {
      found = found_more extensions paths old new i path below is held.found said.added;
      unlisted = reported_more paths i path c.loop-path.unlisted.items c.add.new.unlisted.items below is held.unlisted said.unlisted;
      input_read = input_more extensions paths old new i path below is held.input_read said.added said.input_read;
      started = λ begun. (said.answered (held.started begun)).0;
      answered = λ begun some. ⊎_elim (λ listed. inl listed) (λ reported. inr (omega (arith, reported))) (said.answered (held.started begun)).1;
    }

pub returns : goal.returns
returns g c =
    let held = c.loop-path.invariant in
    let i = c.loop-path.path-index in
    let extensions = texts c.args.selection.extensions.now in
    let paths = texts c.args.paths.now in
    let files = c.in_ok-files.files in
    let same : map string_bytes files.items ≡ files_in c.loop-path.listing = c.in_ok-files.ensures.files in
    let past : length paths ≤ i = rw length-map c.loop-path-test.false in
    let all : take i paths ≡ paths = take_all i paths past in
    let read : Contains paths input → Contains (map string_bytes files.items) input = λ at.
    subst (λ l. Contains l input) (sym same) (held.input_read (subst (λ l. Contains l input) (sym all) at)) in
    record {
      in_order = subst (AreOfAll extensions paths) (sym same) (subst (λ l. AreOfAll extensions l (files_in c.loop-path.listing)) all held.found);
      apart = subst (AllPairs (λ one other. one ≢ other)) (sym same) c.in_ok-files.ensures.apart;
      unlisted = subst (λ l. All (λ one. Any (λ path. IsUnlisted path one) l) c.loop-path.unlisted.items) all held.unlisted;
      input_read = read;
      answered = λ some. ⊎_elim
          (λ begun. ⊎_elim (λ listed. inl (omega (arith, listed, ap length same, length-map files.items string_bytes, files.ok.0))) (λ reported. inr reported)
          (held.answered begun (omega (arith, some, past))))
          (λ at. let has = read at in inl (omega (arith, has.1, length-map files.items string_bytes, files.ok.0)))
          c.in_ok-listing.ensures.started;
    }
