use Rattle.std.proofs.Common.{rules, ◌≡◌, ◌∷◌, ℕ, List, inr, map, string_bytes, subst, true}
use Rattle.std.specs.BTreeSet.{contains_text, keys}
use Rattle.tera_workspace.specs.Names.{is_among}
use Rattle.tera_workspace.proofs.TouchedLemmas.{IsLeft, key_among, name_next, none_left}
use Rattle.tera_workspace.proofs.touched.push_not_in.Goals as goal

pub loop-name-init : goal.loop-name-init
loop-name-init c = λ n free. (free, λ has. inr (subst (λ ks. is_among n (map string_bytes ks) ≡ true) (search rules) (key_among n (keys c.args.names.now) has)))

pub loop-name-preserved : goal.loop-name-preserved
loop-name-preserved c =
    let touched = map string_bytes c.loop-name.touched.items in
    let start = map string_bytes c.args.touched.now.items in
    let has = contains_text c.args.names.now in
    let others = contains_text c.args.others.now in
    let held : (n : List ℕ) → IsLeft touched start (map string_bytes (c.in-Some.name.now ∷ c.next.new.self)) has others n =
    subst (λ ks. (n : List ℕ) → IsLeft touched start (map string_bytes ks) has others n) c.in-Some.ensures.steps c.loop-name.invariant in
    name_next touched (map string_bytes c.push_if_not_in.new.touched.items) start (map string_bytes c.next.new.self) has others (string_bytes c.in-Some.name.now)
    c.in_ok-push_if_not_in.ensures held

pub returns : goal.returns
returns c = λ n.
    let touched = map string_bytes c.loop-name.touched.items in
    let start = map string_bytes c.args.touched.now.items in
    let has = contains_text c.args.names.now in
    let others = contains_text c.args.others.now in
    none_left touched start has others n (subst (λ ks. IsLeft touched start (map string_bytes ks) has others n) c.in-None.ensures.steps.0 (c.loop-name.invariant n))
