use Rattle.std.proofs.Common.{◌<◌, length, map, string_bytes, refl, ap, arith}
use Rattle.std.specs.Vec.{with_item}
use Rattle.tera_editor.proofs.SiteLemmas.{adds_moved, adds_not, given_at, next_of, put_behind, put_not, so_far_begun, so_far_next}
use Rattle.tera_editor.proofs.sites.Sites.renew_each.Goals as goal

pub returns-in_err-append-clause-names : goal.returns-in_err-append-clause-names
returns-in_err-append-clause-names c =
    let s = c.args.self.now in
    let names = c.args.names.now in
    adds_moved (map string_bytes names.items) (map string_bytes c.append.new.self.items) s (record s { renewed = c.append.new.other }) refl
    (put_not names s.renewed c.append.new.self c.append.new.other c.in_err-append.ensures.items c.in_err-append.ensures.other_items)

pub loop-number-init : goal.loop-number-init
loop-number-init c =
    let s = c.args.self.now in
    let names = c.args.names.now in
    so_far_begun c.args.workspace.now (map string_bytes names.items) (map string_bytes c.append.new.self.items) s (record s { renewed = c.append.new.other }) refl
    (put_behind names s.renewed c.append.new.self c.append.new.other c.in_ok-append.ensures.items c.in_ok-append.ensures.other_items)
    (ap (map string_bytes) c.in_ok-append.ensures.other_items)

pub loop-number-preserved : goal.loop-number-preserved
loop-number-preserved c =
    let k = c.loop-number.number in
    let w = c.args.workspace.now in
    let t = c.loop-number.self in
    let names = c.loop-number.names in
    let h = c.loop-number.invariant in
    let x = c.index_mut.result.now in
    let y = c.renew.new.self in
    let found = c.in_ok-self.field-0 in
    let more = c.append-in-loop-number.new in
    let within : k < length t.all.items = omega (arith, h.adds.around.as_many) in
    so_far_next k w (map string_bytes c.args.names.now.items) (map string_bytes names.items) (map string_bytes more.self.items) (map string_bytes found.items)
    c.args.self.now t (record { all = with_item t.all k y; renewed = more.other }) y h
    (next_of k w (map string_bytes found.items) t.all.items x y within c.index_mut.ensures.value c.renew.ensures.same c.renew.ensures.root c.in_ok-self.ensures.renewed.same
    c.renew.ensures.given c.in_ok-self.ensures.others c.in_ok-self.ensures.fits)
    refl (put_behind names found more.self more.other c.in_ok-append-2.ensures.items c.in_ok-append-2.ensures.other_items) (ap (map string_bytes) c.in_ok-append-2.ensures.other_items)

pub returns-in_err-self-clause-given : goal.returns-in_err-self-clause-given
returns-in_err-self-clause-given c =
    let k = c.loop-number.number in
    let t = c.loop-number.self in
    let h = c.loop-number.invariant in
    let y = c.renew.new.self in
    let within : k < length t.all.items = omega (arith, h.adds.around.as_many) in
    given_at c.args.self.now t (record { all = with_item t.all k y; renewed = t.renewed }) k c.index_mut.result.now y h.given within c.index_mut.ensures.value refl c.renew.ensures.given

pub returns-in_err-append-2-clause-given : goal.returns-in_err-append-2-clause-given
returns-in_err-append-2-clause-given c =
    let k = c.loop-number.number in
    let t = c.loop-number.self in
    let h = c.loop-number.invariant in
    let y = c.renew.new.self in
    let within : k < length t.all.items = omega (arith, h.adds.around.as_many) in
    given_at c.args.self.now t (record { all = with_item t.all k y; renewed = c.append-in-loop-number.new.other }) k c.index_mut.result.now y h.given within c.index_mut.ensures.value refl
    c.renew.ensures.given

pub returns-in_err-append-2-clause-names : goal.returns-in_err-append-2-clause-names
returns-in_err-append-2-clause-names c =
    let k = c.loop-number.number in
    let t = c.loop-number.self in
    let names = c.loop-number.names in
    let h = c.loop-number.invariant in
    let y = c.renew.new.self in
    let found = c.in_ok-self.field-0 in
    let more = c.append-in-loop-number.new in
    let within : k < length t.all.items = omega (arith, h.adds.around.as_many) in
    adds_not k c.args.workspace.now (map string_bytes c.args.names.now.items) (map string_bytes names.items) (map string_bytes more.self.items) (map string_bytes found.items) c.args.self.now t
    (record { all = with_item t.all k y; renewed = more.other }) c.index_mut.result.now y h within c.index_mut.ensures.value c.renew.ensures.same c.renew.ensures.root
    c.in_ok-self.ensures.renewed.same refl (put_not names found more.self more.other c.in_err-append-2.ensures.items c.in_err-append-2.ensures.other_items)
