use Rattle.std.proofs.Common.{◌≡◌, ◌++◌, arith, ℕ, List, length, drop, ap, ◌∙◌}
use Rattle.std.proofs.lemmas.List.{drop-append-le, length-append}
use Rattle.message_frames.specs.Steps.{passed_of, stage_after}
use Rattle.message_frames.proofs.RepresentingLaws.{represents_grow, stage_grows}
use Rattle.message_frames.proofs.framing.Frames.push.Goals as goal

pub returns-clause-represents : goal.returns-clause-represents
returns-clause-represents c =
    let f = c.self.inside in
    let more = c.args.bytes.now in
    let bytes = drop f.taken f.held.items in
    let passed : c.passed-passed.result ≡ passed_of f.stage (length more) = c.passed-passed.ensures in
    let stage : c.following-self-inside.result ≡ stage_after f.stage (passed_of f.stage (length more)) =
    c.following-self-inside.ensures ∙ ap (stage_after f.stage) passed in
    let kept : c.split_at.result.1.now ≡ drop (passed_of f.stage (length more)) more =
    c.split_at.ensures.back ∙ ap (λ n. drop n more) passed in
    let held : c.extend_from_slice.new.self.items ≡ c.let_go-self-inside.new.held.items ++ c.split_at.result.1.now =
    c.in_ok-extend_from_slice.ensures.items in
    let now : drop c.let_go-self-inside.result c.extend_from_slice.new.self.items ≡ bytes ++ drop (passed_of f.stage (length more)) more =
    ap (drop c.let_go-self-inside.result) held ∙ drop-append-le c.let_go-self-inside.result c.let_go-self-inside.new.held.items c.split_at.result.1.now c.let_go-self-inside.ensures.within
    ∙ ap (λ (x : List ℕ). x ++ c.split_at.result.1.now) c.let_go-self-inside.ensures.rest
    ∙ ap (λ (x : List ℕ). bytes ++ x) kept in
    rw (← c.self.view_is, stage, now) (λ pending h. represents_grow f.limit f.stage bytes pending more c.self.invariant.1 h)

pub invariant_of-self : goal.invariant_of-self
invariant_of-self c =
    let f = c.self.inside in
    let same : c.extend_from_slice.new.self.items ≡ c.let_go-self-inside.new.held.items =
    c.in_err-extend_from_slice.ensures.items in
    let back : drop c.let_go-self-inside.result c.extend_from_slice.new.self.items ≡ drop f.taken f.held.items =
    ap (drop c.let_go-self-inside.result) same ∙ c.let_go-self-inside.ensures.rest in
    (rw same c.let_go-self-inside.ensures.within, rw back c.self.invariant.1)

pub invariant_of-self-2 : goal.invariant_of-self-2
invariant_of-self-2 c =
    let f = c.self.inside in
    let more = c.args.bytes.now in
    let bytes = drop f.taken f.held.items in
    let passed : c.passed-passed.result ≡ passed_of f.stage (length more) = c.passed-passed.ensures in
    let stage : c.following-self-inside.result ≡ stage_after f.stage (passed_of f.stage (length more)) =
    c.following-self-inside.ensures ∙ ap (stage_after f.stage) passed in
    let kept : c.split_at.result.1.now ≡ drop (passed_of f.stage (length more)) more =
    c.split_at.ensures.back ∙ ap (λ n. drop n more) passed in
    let held : c.extend_from_slice.new.self.items ≡ c.let_go-self-inside.new.held.items ++ c.split_at.result.1.now =
    c.in_ok-extend_from_slice.ensures.items in
    let now : drop c.let_go-self-inside.result c.extend_from_slice.new.self.items ≡ bytes ++ drop (passed_of f.stage (length more)) more =
    ap (drop c.let_go-self-inside.result) held ∙ drop-append-le c.let_go-self-inside.result c.let_go-self-inside.new.held.items c.split_at.result.1.now c.let_go-self-inside.ensures.within
    ∙ ap (λ (x : List ℕ). x ++ c.split_at.result.1.now) c.let_go-self-inside.ensures.rest
    ∙ ap (λ (x : List ℕ). bytes ++ x) kept in
    let within = c.let_go-self-inside.ensures.within in
    let longer = length-append c.let_go-self-inside.new.held.items c.split_at.result.1.now in
    (omega (arith, within, longer, ap length held), rw (stage, now) (stage_grows f.limit f.stage bytes more c.self.invariant.1))
