-- Sources, and their layout.
use Rattle.std.proofs.Common.{◌≡◌, ◌∷◌, ◌++◌, Some, None, codes, refl}
use Rattle.tera_lexer.specs.grammar.Marks.{Marks, default_marks}
use Rattle.tera_lexer.specs.reading.Front.{division_by, inside_by, front_of}
use Rattle.tera_layout.specs.Layout.{laid_out}

variable_tag : laid_out default_marks (codes "a  {{b}}") ≡ Some (codes "a  {{ b }}")
unfolding division_by inside_by front_of
variable_tag = refl

minus_after_a_dash : laid_out default_marks (codes "{{-1}}") ≡ Some (codes "{{- 1 }}")
unfolding division_by inside_by front_of
minus_after_a_dash = refl

white_space_in_a_string : laid_out default_marks (codes "{{  'b  c'|d  }}") ≡ Some (codes "{{ 'b  c' | d }}")
unfolding division_by inside_by front_of
white_space_in_a_string = refl

statement : laid_out default_marks (codes "{%if  a-%} x{#  #}{%endif%}") ≡ Some (codes "{% if a -%} x{#  #}{% endif %}")
unfolding division_by inside_by front_of
statement = refl

raw_piece : laid_out default_marks (codes "{%raw  %} {{a}}{% endraw%}") ≡ Some (codes "{%raw  %} {{a}}{% endraw%}")
unfolding division_by inside_by front_of
raw_piece = refl

line_feeds : laid_out default_marks (codes "{{a" ++ 10 ∷ codes "  |b   |c}}") ≡ Some (codes "{{ a" ++ 10 ∷ codes "  | b | c }}")
unfolding division_by inside_by front_of
line_feeds = refl

open_tag : laid_out default_marks (codes "{{ a") ≡ None
unfolding division_by inside_by front_of
open_tag = refl

white_space_that_goes : laid_out default_marks (codes "{{ a . b [ 0 ]|f( x =1 ) }}") ≡ Some (codes "{{ a.b[0] | f(x=1) }}")
unfolding division_by inside_by front_of
white_space_that_goes = refl

lexemes_that_would_not_stay_two : laid_out default_marks (codes "{{ 1 . . 2} } }}") ≡ Some (codes "{{ 1 . . 2} } }}")
unfolding division_by inside_by front_of
lexemes_that_would_not_stay_two = refl

name_that_is_set : laid_out default_marks (codes "{%set a=f( b = -1 )%}") ≡ Some (codes "{% set a = f(b=-1) %}")
unfolding division_by inside_by front_of
name_that_is_set = refl

brackets : Marks
brackets = record {
  block_start = codes "[%";
  block_end = codes "%]";
  variable_start = codes "[[";
  variable_end = codes "]]";
  comment_start = codes "[#";
  comment_end = codes "#]";
}

white_space_that_keeps_an_end_away : laid_out brackets (codes "[[a [ b[0  ] ]  | c]][%set x = {{1}}%]") ≡ Some (codes "[[ a[b[0] ] | c ]][% set x = {{1}} %]")
unfolding division_by inside_by front_of brackets
white_space_that_keeps_an_end_away = refl
