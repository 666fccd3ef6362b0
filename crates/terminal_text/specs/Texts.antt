-- The window of a line, as characters.
use Rattle.std.specs.Prelude.{chars}
use Rattle.terminal_text.specs.Excerpt.{Window}
use Rattle.terminal_text.specs.declared.excerpt.Window.{Window as Texts}

abbrev pub window_view : Texts → Window
window_view t = record {
  left_out = chars t.left_out.now;
  before = chars t.before.now;
  marked = chars t.marked.now;
  following = chars t.following.now;
  beyond = chars t.beyond.now;
}
