use Rattle.tera_program_parts.proofs.ExcludedLemmas.{put}
use Rattle.tera_program_parts.proofs.excluded.put_path.Goals as goal

pub returns : goal.returns
returns c = λ names.
    put c.args.paths.now c.insert.new.self c.in_ok-folder.folder c.args.path.now names c.in_ok-insert.ensures.keys c.in_ok-folder.ensures
