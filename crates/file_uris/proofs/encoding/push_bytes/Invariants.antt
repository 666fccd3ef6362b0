use Rattle.std.proofs.Common.{◌≡◌, ◌++◌, drop, string_bytes}
use Rattle.file_uris.specs.Encoding.{encoded_path}
use Rattle.file_uris.proofs.encoding.push_bytes.Given as goal

abbrev pub invariant-loop-byte : goal.invariant-loop-byte
invariant-loop-byte l = string_bytes l.initial.uri ++ encoded_path l.path ≡ string_bytes l.uri ++ encoded_path (drop l.byte-index l.path)
