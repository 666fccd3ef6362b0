use Rattle.std.proofs.Common.{◌∙◌, map, string_bytes, sym}
use Rattle.tera_workspace.specs.KeptSites.{around_file}
use Rattle.tera_workspace.proofs.PlaceLemmas.{false_true}
use Rattle.tera_workspace.proofs.RenewsLemmas.{all_renewed, more_renewed, no_more, none_left}
use Rattle.tera_workspace.proofs.sites.renewed.Goals as goal

pub put_first-requires : goal.put_first-requires
put_first-requires c = c.are_left.ensures.0 c.files-test.true

pub files-preserved : goal.files-preserved
files-preserved c =
    more_renewed (map around_file c.args.before.now.items) (map around_file c.args.after.now.items) (map around_file c.files.older.now) (map around_file c.files.newer.now)
    (map string_bytes c.files.files.items) (map string_bytes c.put_first.new.files.items) c.files.invariant
    (map around_file c.in_ok-older_left.older_left.now) (map around_file c.in_ok-older_left.newer_left.now) c.in_ok-older_left.ensures.put

pub files-smaller : goal.files-smaller
files-smaller c = c.in_ok-older_left.ensures.smaller

pub returns : goal.returns
returns c =
    let before = c.args.before.now.items in
    let after = c.args.after.now.items in
    let older = c.files.older.now in
    let newer = c.files.newer.now in
    all_renewed (map around_file before) (map around_file after) (map string_bytes c.files.files.items)
    (no_more before after older newer (map string_bytes c.files.files.items) (none_left older newer (λ some. false_true (sym c.files-test.false ∙ c.are_left.ensures.1 some))) c.files.invariant)
    c.requires.before c.requires.after
