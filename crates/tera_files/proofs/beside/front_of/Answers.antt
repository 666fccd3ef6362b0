use Rattle.std.proofs.Common.{sym, arith}
use Rattle.std.proofs.lemmas.List.{take-append-drop}
use Rattle.tera_files.proofs.beside.front_of.Goals as goal

pub returns : goal.returns
returns c = record {
  rest = c.split_at.result.1.now;
  whole = rw (c.split_at.ensures.front, c.split_at.ensures.back) (sym (take-append-drop c.floor_char_boundary.result c.args.name.now));
  room = omega (arith, c.split_at.ensures.front_len, c.floor_char_boundary.ensures.bound);
}
