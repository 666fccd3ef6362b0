-- Faults that are not an allocation failure.
use Rattle.std.proofs.Common.{◌≡◌, false}
use Rattle.tera_base.specs.Errors.{IsMemoryKind, IsMemory}
use Rattle.tera_base.specs.declared.errors.Error.{Error}
use Rattle.tera_base.specs.declared.errors.ErrorKind.{ErrorKind}
use Rattle.tera_base.specs.declared.errors.ErrorKind.TheVariants.{Memory, Message, SyntaxError}
use Rattle.tera_findings.specs.Faults.{is_memory_kind, is_memory}

kind_apart : (k : ErrorKind) → IsMemoryKind k → false ≡ is_memory_kind k → ⊥
kind_apart Memory m h = cc
kind_apart (Message s) m h = m
kind_apart (SyntaxError b) m h = m

pub apart : (e : Error) → IsMemory e → false ≡ is_memory e → ⊥
apart e m h = kind_apart e.kind m h
