use Rattle.std.proofs.Common.{◌≡◌}
use Rattle.std.specs.Str.Lossy.{utf8_valid_len}
use Rattle.tera_files.proofs.TextLemmas.{valid_of_left}
use Rattle.tera_files.proofs.reading.source_of.Goals as goal

pub returns-clause-not_utf8 : goal.returns-clause-not_utf8
returns-clause-not_utf8 g c = λ at is.
    let same : c.valid_up_to.result ≡ at = cc in
    let front : at ≡ utf8_valid_len c.read_to_end.new.buf.items = cc (c.utf8_error.ensures, c.in-Err.ensures.valid_len) in
    valid_of_left (g.R.Read.remaining c.args.reader) c.in_ok-bytes.bytes.items c.read_to_end.new.buf.items at
    c.in_ok-read_to_end.ensures.bytes c.in_ok-bytes.ensures.items (λ text. let said = c.in-Err.ensures.succeeds text in cc) front
