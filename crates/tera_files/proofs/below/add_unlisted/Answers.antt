use Rattle.std.proofs.Common.{◌++◌, ◌∷◌, [], Some, sym, ◌∙◌, subst, string_bytes}
use Rattle.std.proofs.lemmas.List.Elements.{All-push, All-same}
use Rattle.tera_files.specs.Below.{IsUnlisted}
use Rattle.tera_files.specs.Paths.{IsWithin}
use Rattle.tera_files.specs.declared.finding.Unlisted.{Unlisted}
use Rattle.tera_files.proofs.BelowLemmas.{within_of}
use Rattle.tera_files.proofs.below.add_unlisted.Goals as goal

pub returns : goal.returns
returns c = λ extensions top itself is are.
    let one : Unlisted = record { folder = c.in_ok-folder.folder; error = Some c.args.error } in
    let all = c.args.below.now.unlisted.items in
    let within = within_of top itself (string_bytes c.args.folder.now.path) (string_bytes c.args.folder.now.itself) is in
    let here : IsUnlisted top one = subst (IsWithin top) (sym (c.in_ok-folder.ensures.ok ∙ c.as_str.ensures.value)) within in
    record {
      templates = are.templates;
      known = are.known;
      folders = are.folders;
      unlisted = All-same (IsUnlisted top) c.push.new.self.items (all ++ one ∷ []) c.in_ok-push.ensures.items (All-push (IsUnlisted top) all one are.unlisted here);
    }
