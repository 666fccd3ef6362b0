use Rattle.std.proofs.Common.{◌≡◌, ◌∙◌, ◌∷◌, ◌||◌, [], ℕ, List, true, false, map, string_bytes, take, refl, sym, ap, arith}
use Rattle.tera_workspace.specs.Names.{is_among, contains_name}
use Rattle.tera_server.specs.Sending.{with_all, messages_in, names_once, publisher}
use Rattle.tera_server.proofs.PublishLemmas.{with_none, or_false, inserted, had, done_next, sends_next, sends_all, sends_first, on_any_err}
use Rattle.tera_server.proofs.findings.publish_each.Goals as goal
use Rattle.tera_server.proofs.findings.publish_each.Goals.{then-not-contains+in_ok-insert+in_ok-publish, else-not-contains}

pub loop-name-init : goal.loop-name-init
loop-name-init c = record {
  sent = sym (with_none c.args.out.now);
  done = λ n. c.in_ok-done.ensures n ∙ sym (or_false (is_among n (map string_bytes c.args.others.now)));
}

pub loop-name-preserved : goal.loop-name-preserved
loop-name-preserved c =
    let p = publisher c.args.publishing in
    let workspace = c.args.workspace.now in
    let others = map string_bytes c.args.others.now in
    let names = c.args.names.now in
    let i = c.loop-name.name-index in
    let key = c.name-item.result in
    let name = string_bytes key in
    let before = c.loop-name.invariant in
    let had_it : c.contains.result ≡ contains_name c.loop-name.done name = c.contains.ensures ∙ ap (contains_name c.loop-name.done) c.as_str-name.ensures.value in
    let known : c.contains.result ≡ (is_among name others || is_among name (map string_bytes (take i names))) = had_it ∙ before.done name in
    elim c.if-not-contains.branch [
      | then-not-contains+in_ok-insert+in_ok-publish w ↦ record {
        sent =
            sends_next p workspace others names i key c.args.out.now c.loop-name.out c.if-not-contains.out c.loop-name-test.true c.name-item.is before.sent
            false (sym w.if-not-contains.true ∙ known)
            (w.out-is ∙ w.in_ok-publish.ensures.published ∙ ap (λ n. with_all c.loop-name.out (messages_in p workspace (n ∷ []))) c.as_str-name.ensures.value);
        done =
            done_next others names i key c.loop-name.done c.if-not-contains.done c.loop-name-test.true c.name-item.is before.done
            (λ n. ap (λ s. contains_name s n) w.done-is ∙ inserted c.loop-name.done w.insert.new.self c.as_str-name.result name c.as_str-name.ensures.value w.in_ok-insert.ensures.updates n);
      }
      | else-not-contains w ↦ record {
        sent =
            sends_next p workspace others names i key c.args.out.now c.loop-name.out c.if-not-contains.out c.loop-name-test.true c.name-item.is before.sent
            true (sym w.if-not-contains.false ∙ known)
            (w.out-is ∙ sym (with_none c.loop-name.out));
        done =
            done_next others names i key c.loop-name.done c.if-not-contains.done c.loop-name-test.true c.name-item.is before.done
            (λ n. ap (λ s. contains_name s n) w.done-is ∙ had c.loop-name.done name (sym had_it ∙ w.if-not-contains.false) n);
      }
    ]

pub returns-in_err-done-clause-in_part : goal.returns-in_err-done-clause-in_part
returns-in_err-done-clause-in_part c = on_any_err c.from_residual.result ([], map string_bytes c.args.names.now, refl, sym (with_none c.args.out.now))

pub returns-in_err-insert-clause-in_part : goal.returns-in_err-insert-clause-in_part
returns-in_err-insert-clause-in_part c =
    let messages = λ (ns : List (List ℕ)). messages_in (publisher c.args.publishing) c.args.workspace.now (names_once (map string_bytes c.args.others.now) ns) in
    on_any_err c.from_residual-in_err-insert.result
    (sends_first messages c.args.names.now c.loop-name.name-index c.args.out.now c.loop-name.out c.loop-name.invariant.sent)

pub returns-in_err-publish-clause-in_part : goal.returns-in_err-publish-clause-in_part
returns-in_err-publish-clause-in_part c =
    let messages = λ (ns : List (List ℕ)). messages_in (publisher c.args.publishing) c.args.workspace.now (names_once (map string_bytes c.args.others.now) ns) in
    on_any_err c.from_residual-in_err-publish.result
    (sends_first messages c.args.names.now c.loop-name.name-index c.args.out.now c.publish.new.out (c.in_err-publish.ensures.err ∙ c.loop-name.invariant.sent))

pub returns-clause-published : goal.returns-clause-published
returns-clause-published c =
    let messages = λ (ns : List (List ℕ)). messages_in (publisher c.args.publishing) c.args.workspace.now (names_once (map string_bytes c.args.others.now) ns) in
    sends_all messages c.args.names.now c.loop-name.name-index c.args.out.now c.loop-name.out (omega arith) c.loop-name.invariant.sent
