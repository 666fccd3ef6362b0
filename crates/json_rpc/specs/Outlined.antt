-- Outlines, without where their texts lie.
use Rattle.json_rpc.specs.Outline.{OutlineVal, Kind, NoMethod, TextMethod, OtherMethod}
use Rattle.json_rpc.specs.Shown.{naming_view}
use Rattle.json_rpc.specs.declared.unread.Method.{Method}
use Rattle.json_rpc.specs.declared.unread.Method.TheVariants as methods
use Rattle.json_rpc.specs.declared.unread.Outline.{Outline}

abbrev pub kind_view : Method → Kind
kind_view methods.Absent = NoMethod
kind_view methods.Text = TextMethod
kind_view methods.Other = OtherMethod

abbrev pub outline_view : Outline → OutlineVal
outline_view o = record { named = naming_view o.named; method = kind_view o.method; given = o.has_outcome }
