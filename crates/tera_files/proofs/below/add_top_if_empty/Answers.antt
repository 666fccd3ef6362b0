use Rattle.std.proofs.Common.{◌++◌, ◌∷◌, [], None}
use Rattle.std.proofs.lemmas.List.Elements.{All-push, All-same}
use Rattle.tera_files.specs.Below.{IsUnlisted}
use Rattle.tera_files.specs.declared.finding.Unlisted.{Unlisted}
use Rattle.tera_files.proofs.below.add_top_if_empty.Goals as goal

pub returns-clause-kept : goal.returns-clause-kept
returns-clause-kept c = λ extensions itself are.
    let top = c.args.top.now in
    let one : Unlisted = record { folder = c.in_ok-folder.folder; error = None } in
    let all = c.args.below.now.unlisted.items in
    record {
      templates = are.templates;
      known = are.known;
      folders = are.folders;
      unlisted = All-same (IsUnlisted top) c.push.new.self.items (all ++ one ∷ []) c.in_ok-push.ensures.items (All-push (IsUnlisted top) all one are.unlisted c.in_ok-folder.ensures.ok);
    }
