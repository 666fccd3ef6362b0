use Rattle.std.proofs.Common.{◌∙◌, map, string_bytes, sym}
use Rattle.tera_workspace.proofs.PlaceLemmas.{false_true}
use Rattle.tera_workspace.proofs.RenewsLemmas.{both_left, came_put, first_same, gone_put, other_put, parts, rest_of, same_around, same_first, same_put, some_came, some_gone}
use Rattle.tera_workspace.proofs.sites.put_first.Goals as goal

pub put_file-requires : goal.put_file-requires
put_file-requires c = some_gone c.args.older.now c.args.newer.now (sym c.order_of.ensures ∙ c.in-Less.is)

pub returns-in_ok-put_file-in-Less-clause-put : goal.returns-in_ok-put_file-in-Less-clause-put
returns-in_ok-put_file-in-Less-clause-put c =
    let (first, is, put) = c.in_ok-put_file-in-Less.ensures in
    gone_put c.args.older.now c.args.newer.now c.in_ok-put_file-in-Less.field-0.now first (map string_bytes c.args.files.now.items) (map string_bytes c.put_file.new.files.items)
    (sym c.order_of.ensures ∙ c.in-Less.is) is put

pub put_file-requires-in-Greater : goal.put_file-requires-in-Greater
put_file-requires-in-Greater c = some_came c.args.older.now c.args.newer.now (sym c.order_of.ensures ∙ c.in-Greater.is)

pub returns-in_ok-put_file-in-Greater-clause-put : goal.returns-in_ok-put_file-in-Greater-clause-put
returns-in_ok-put_file-in-Greater-clause-put c =
    let (first, is, put) = c.in_ok-put_file-in-Greater.ensures in
    came_put c.args.older.now c.args.newer.now c.in_ok-put_file-in-Greater.field-0.now first (map string_bytes c.args.files.now.items) (map string_bytes c.put_file-in-Greater.new.files.items)
    (sym c.order_of.ensures ∙ c.in-Greater.is) is put

pub bounds-older-0 : goal.bounds-older-0
bounds-older-0 c = (both_left c.args.older.now c.args.newer.now (sym c.order_of.ensures ∙ c.in-Equal.is) c.requires).0

pub bounds-newer-0 : goal.bounds-newer-0
bounds-newer-0 c = (both_left c.args.older.now c.args.newer.now (sym c.order_of.ensures ∙ c.in-Equal.is) c.requires).1

pub returns-then-same_surroundings-clause-put : goal.returns-then-same_surroundings-clause-put
returns-then-same_surroundings-clause-put c =
    let older = c.args.older.now in
    let newer = c.args.newer.now in
    let order = sym c.order_of.ensures ∙ c.in-Equal.is in
    let some = both_left older newer order c.requires in
    let d = c.index-older-0.result in
    let e = c.index-newer-0.result in
    same_put older newer (rest_of older) (rest_of newer) d e (map string_bytes c.args.files.now.items) order (parts older d some.0 c.index-older-0.is) (parts newer e some.1 c.index-newer-0.is)
    (same_first older newer d e c.index-older-0.is c.index-newer-0.is (c.same_surroundings.ensures.0 c.if-same_surroundings.true))

pub returns-in_ok-put_file-in-Equal-clause-put : goal.returns-in_ok-put_file-in-Equal-clause-put
returns-in_ok-put_file-in-Equal-clause-put c =
    let older = c.args.older.now in
    let newer = c.args.newer.now in
    let order = sym c.order_of.ensures ∙ c.in-Equal.is in
    let some = both_left older newer order c.requires in
    let d = c.index-older-0.result in
    let e = c.index-newer-0.result in
    let (first, is, put) = c.in_ok-put_file-in-Equal.ensures in
    let left = c.in_ok-put_file-in-Equal.field-0.now in
    other_put older newer (rest_of older) left d first (map string_bytes c.args.files.now.items) (map string_bytes c.put_file-else-same_surroundings.new.files.items) order
    (parts older d some.0 c.index-older-0.is) is
    (λ same. false_true (sym c.if-same_surroundings.false
    ∙ c.same_surroundings.ensures.1 (first_same older newer d e c.index-older-0.is c.index-newer-0.is (same_around newer d first e left is c.index-newer-0.is same)))) put
