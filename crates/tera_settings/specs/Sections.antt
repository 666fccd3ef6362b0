-- A table of the file.
use Rattle.toml.specs.Data.{Members}
use Rattle.toml.specs.View.{table_view}
use Rattle.tera_settings.specs.declared.section.Section.{Section}

-- its members
abbrev pub members_of : Section → Members
members_of section = table_view section.table.now
