-- What the tokens of a body begin with, without the tokens themselves.
use Rattle.std.specs.Prelude.{Bool, false, true}
use Rattle.tera_grammar.specs.expressions.Reading.Front.{same_token}
use Rattle.tera_grammar.specs.statements.TagParts as parts
use Rattle.tera_grammar.specs.statements.TagParts.{closer_token}
use Rattle.tera_grammar.specs.statements.Reading.TagParts as reading
use Rattle.tera_tags.specs.declared.fronts.Opener.{Opener}
use Rattle.tera_tags.specs.declared.fronts.Opener.TheVariants as openers
use Rattle.tera_tags.specs.declared.fronts.Closer.{Closer}
use Rattle.tera_tags.specs.declared.fronts.Closer.TheVariants as closers
use Rattle.tera_tags.specs.declared.fronts.Front.{Front}
use Rattle.tera_tags.specs.declared.fronts.Front.TheVariants.{Ends, Closes, Holds, Shows, Opens, Wrong}

abbrev pub opener_kind : parts.Opener → Opener
opener_kind (parts.OpensSet global) = openers.Set global
opener_kind parts.OpensInclude = openers.Include
opener_kind parts.OpensExtends = openers.Extends
opener_kind parts.OpensBlock = openers.Block
opener_kind parts.OpensFor = openers.For
opener_kind parts.OpensIf = openers.If
opener_kind parts.OpensFilter = openers.Filter
opener_kind parts.OpensComponent = openers.Component
opener_kind parts.OpensBreak = openers.Break
opener_kind parts.OpensContinue = openers.Continue
opener_kind parts.OpensCall = openers.Call

abbrev pub closer_kind : parts.Closer → Closer
closer_kind parts.AtElif = closers.Elif
closer_kind parts.AtElse = closers.Else
closer_kind parts.AtEndSet = closers.EndSet
closer_kind parts.AtEndBlock = closers.EndBlock
closer_kind parts.AtEndFor = closers.EndFor
closer_kind parts.AtEndIf = closers.EndIf
closer_kind parts.AtEndFilter = closers.EndFilter
closer_kind parts.AtEndComponent = closers.EndComponent
closer_kind parts.AtEndCall = closers.EndCall

abbrev pub role_kind : reading.Role → Front
role_kind (reading.Opening o) = Opens (opener_kind o)
role_kind (reading.Closing c) = Closes (closer_kind c)
role_kind reading.Neither = Wrong

abbrev pub kind_of : reading.Front → Front
kind_of reading.Ends = Ends
kind_of (reading.Closes c start first items) = Closes (closer_kind c)
kind_of (reading.Holds text span items) = Holds
kind_of (reading.Shows start items) = Shows
kind_of (reading.Opens o start first items) = Opens (opener_kind o)
kind_of reading.Wrong = Wrong

-- whether it is an `extends`
abbrev pub opens_extends : Front → Bool
opens_extends (Opens openers.Extends) = true
opens_extends k = false

-- the closing token of its kind
abbrev pub closer_of : Closer → parts.Closer
closer_of closers.Elif = parts.AtElif
closer_of closers.Else = parts.AtElse
closer_of closers.EndSet = parts.AtEndSet
closer_of closers.EndBlock = parts.AtEndBlock
closer_of closers.EndFor = parts.AtEndFor
closer_of closers.EndIf = parts.AtEndIf
closer_of closers.EndFilter = parts.AtEndFilter
closer_of closers.EndComponent = parts.AtEndComponent
closer_of closers.EndCall = parts.AtEndCall

-- whether a tag with this closing token comes next
abbrev pub closes : Closer → reading.Front → Bool
closes expected (reading.Closes c start first items) = same_token (closer_token c) (closer_token (closer_of expected))
closes expected front = false

-- what the first token of its kind opens
abbrev pub opener_of : Opener → parts.Opener
opener_of (openers.Set global) = parts.OpensSet global
opener_of openers.Include = parts.OpensInclude
opener_of openers.Extends = parts.OpensExtends
opener_of openers.Block = parts.OpensBlock
opener_of openers.For = parts.OpensFor
opener_of openers.If = parts.OpensIf
opener_of openers.Filter = parts.OpensFilter
opener_of openers.Component = parts.OpensComponent
opener_of openers.Break = parts.OpensBreak
opener_of openers.Continue = parts.OpensContinue
opener_of openers.Call = parts.OpensCall
