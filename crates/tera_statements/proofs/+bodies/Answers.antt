use Rattle.std.proofs.Common.{arith}
use Rattle.tera_statements.proofs.BodiesLemmas.{not_both}
use Rattle.tera_statements.proofs.+bodies.Answers.Bodying as bodies
use Rattle.tera_statements.proofs.+bodies.Answers.Itemizing as items
use Rattle.tera_statements.proofs.+bodies.Answers.Capturing as captures
use Rattle.tera_statements.proofs.+bodies.Answers.Blocking as blocks
use Rattle.tera_statements.proofs.+bodies.Answers.Looping as loops
use Rattle.tera_statements.proofs.+bodies.Answers.Conditioning as conditions
use Rattle.tera_statements.proofs.+bodies.Goals as goal
mod Bodying
mod Itemizing
mod Capturing
mod Blocking
mod Looping
mod Conditioning

pub bodies::body-next_node-requires : goal.bodies::body-next_node-requires
bodies::body-next_node-requires t c = (omega arith, c.inside-inside.ensures.inner)

pub bodies::next_node-item_node-requires : goal.bodies::next_node-item_node-requires
bodies::next_node-item_node-requires t c = (omega arith, (c.requires, c.in-None.ensures.1))

pub bodies::item_node-item-requires : goal.bodies::item_node-item-requires
bodies::item_node-item-requires t c = (omega arith, (λ none. not_both _ none c.requires.inner, c.requires.text))

pub items::item-tag-requires : goal.items::item-tag-requires
items::item-tag-requires t c = (omega arith, c.requires.free)

pub bodies::body-returns-then-depth-eq0-clause-gives : goal.bodies::body-returns-then-depth-eq0-clause-gives
bodies::body-returns-then-depth-eq0-clause-gives t c = bodies.bodies::body-returns-then-depth-eq0-clause-gives t c

pub bodies::body-items-init : goal.bodies::body-items-init
bodies::body-items-init t c = bodies.bodies::body-items-init t c

pub bodies::body-returns-in_err-later-clause-gives : goal.bodies::body-returns-in_err-later-clause-gives
bodies::body-returns-in_err-later-clause-gives t c = bodies.bodies::body-returns-in_err-later-clause-gives t c

pub bodies::body-items-preserved : goal.bodies::body-items-preserved
bodies::body-items-preserved t c = bodies.bodies::body-items-preserved t c

pub bodies::body-items-smaller : goal.bodies::body-items-smaller
bodies::body-items-smaller t c = bodies.bodies::body-items-smaller t c

pub bodies::body-returns-clause-gives : goal.bodies::body-returns-clause-gives
bodies::body-returns-clause-gives t c = bodies.bodies::body-returns-clause-gives t c

pub bodies::body-returns-clause-later : goal.bodies::body-returns-clause-later
bodies::body-returns-clause-later t c = bodies.bodies::body-returns-clause-later t c

pub bodies::next_node-returns-in_ok-push_text-in-Some-clause-gives : goal.bodies::next_node-returns-in_ok-push_text-in-Some-clause-gives
bodies::next_node-returns-in_ok-push_text-in-Some-clause-gives t c = bodies.bodies::next_node-returns-in_ok-push_text-in-Some-clause-gives t c

pub bodies::next_node-returns-in-None-clause-gives : goal.bodies::next_node-returns-in-None-clause-gives
bodies::next_node-returns-in-None-clause-gives t c = bodies.bodies::next_node-returns-in-None-clause-gives t c

pub bodies::next_node-returns-in-None-clause-refusal : goal.bodies::next_node-returns-in-None-clause-refusal
bodies::next_node-returns-in-None-clause-refusal t c = bodies.bodies::next_node-returns-in-None-clause-refusal t c

pub bodies::next_node-returns-in-None-clause-later : goal.bodies::next_node-returns-in-None-clause-later
bodies::next_node-returns-in-None-clause-later t c = bodies.bodies::next_node-returns-in-None-clause-later t c

pub bodies::item_node-returns-in_err-added-clause-gives : goal.bodies::item_node-returns-in_err-added-clause-gives
bodies::item_node-returns-in_err-added-clause-gives t c = bodies.bodies::item_node-returns-in_err-added-clause-gives t c

pub bodies::item_node-returns-in_default-clause-gives : goal.bodies::item_node-returns-in_default-clause-gives
bodies::item_node-returns-in_default-clause-gives t c = bodies.bodies::item_node-returns-in_default-clause-gives t c

pub bodies::item_node-returns-clause-gives : goal.bodies::item_node-returns-clause-gives
bodies::item_node-returns-clause-gives t c = bodies.bodies::item_node-returns-clause-gives t c

pub items::item-returns-in-Ends-clause-gives : goal.items::item-returns-in-Ends-clause-gives
items::item-returns-in-Ends-clause-gives t c = items.items::item-returns-in-Ends-clause-gives t c

pub items::item-returns-in-Closes-clause-gives : goal.items::item-returns-in-Closes-clause-gives
items::item-returns-in-Closes-clause-gives t c = items.items::item-returns-in-Closes-clause-gives t c

pub items::item-returns-in_err-added-in-Opens-clause-gives : goal.items::item-returns-in_err-added-in-Opens-clause-gives
items::item-returns-in_err-added-in-Opens-clause-gives t c = items.items::item-returns-in_err-added-in-Opens-clause-gives t c

pub items::item-returns-in_ok-added-in-Opens-clause-gives : goal.items::item-returns-in_ok-added-in-Opens-clause-gives
items::item-returns-in_ok-added-in-Opens-clause-gives t c = items.items::item-returns-in_ok-added-in-Opens-clause-gives t c

pub items::item-returns-in-Wrong-clause-gives : goal.items::item-returns-in-Wrong-clause-gives
items::item-returns-in-Wrong-clause-gives t c = items.items::item-returns-in-Wrong-clause-gives t c

pub captures::set-returns-in_err-name-clause-gives : goal.captures::set-returns-in_err-name-clause-gives
captures::set-returns-in_err-name-clause-gives t c = captures.captures::set-returns-in_err-name-clause-gives t c

pub captures::set-returns-then-eat-clause-gives : goal.captures::set-returns-then-eat-clause-gives
captures::set-returns-then-eat-clause-gives t c = captures.captures::set-returns-then-eat-clause-gives t c

pub captures::set-returns-clause-gives : goal.captures::set-returns-clause-gives
captures::set-returns-clause-gives t c = captures.captures::set-returns-clause-gives t c

pub captures::set_body-returns-in_err-check_set-clause-gives : goal.captures::set_body-returns-in_err-check_set-clause-gives
captures::set_body-returns-in_err-check_set-clause-gives t c = captures.captures::set_body-returns-in_err-check_set-clause-gives t c

pub captures::set_body-returns-in_err-filters-clause-gives : goal.captures::set_body-returns-in_err-filters-clause-gives
captures::set_body-returns-in_err-filters-clause-gives t c = captures.captures::set_body-returns-in_err-filters-clause-gives t c

pub captures::set_body-returns-in_err-inside-clause-gives : goal.captures::set_body-returns-in_err-inside-clause-gives
captures::set_body-returns-in_err-inside-clause-gives t c = captures.captures::set_body-returns-in_err-inside-clause-gives t c

pub captures::set_body-returns-in_err-closed_tag-clause-gives : goal.captures::set_body-returns-in_err-closed_tag-clause-gives
captures::set_body-returns-in_err-closed_tag-clause-gives t c = captures.captures::set_body-returns-in_err-closed_tag-clause-gives t c

pub captures::set_body-returns-clause-gives : goal.captures::set_body-returns-clause-gives
captures::set_body-returns-clause-gives t c = captures.captures::set_body-returns-clause-gives t c

pub captures::section-returns-in_err-filters-clause-gives : goal.captures::section-returns-in_err-filters-clause-gives
captures::section-returns-in_err-filters-clause-gives t c = captures.captures::section-returns-in_err-filters-clause-gives t c

pub captures::section-returns-in_err-inside-clause-gives : goal.captures::section-returns-in_err-inside-clause-gives
captures::section-returns-in_err-inside-clause-gives t c = captures.captures::section-returns-in_err-inside-clause-gives t c

pub captures::section-returns-in_err-closed_tag-clause-gives : goal.captures::section-returns-in_err-closed_tag-clause-gives
captures::section-returns-in_err-closed_tag-clause-gives t c = captures.captures::section-returns-in_err-closed_tag-clause-gives t c

pub captures::section-returns-clause-gives : goal.captures::section-returns-clause-gives
captures::section-returns-clause-gives t c = captures.captures::section-returns-clause-gives t c

pub captures::call-returns-in_err-name-clause-gives : goal.captures::call-returns-in_err-name-clause-gives
captures::call-returns-in_err-name-clause-gives t c = captures.captures::call-returns-in_err-name-clause-gives t c

pub captures::call-returns-in_err-attributes-clause-gives : goal.captures::call-returns-in_err-attributes-clause-gives
captures::call-returns-in_err-attributes-clause-gives t c = captures.captures::call-returns-in_err-attributes-clause-gives t c

pub captures::call-returns-in_err-inside-clause-gives : goal.captures::call-returns-in_err-inside-clause-gives
captures::call-returns-in_err-inside-clause-gives t c = captures.captures::call-returns-in_err-inside-clause-gives t c

pub captures::call-returns-in_err-last-clause-gives : goal.captures::call-returns-in_err-last-clause-gives
captures::call-returns-in_err-last-clause-gives t c = captures.captures::call-returns-in_err-last-clause-gives t c

pub captures::call-returns-clause-gives : goal.captures::call-returns-clause-gives
captures::call-returns-clause-gives t c = captures.captures::call-returns-clause-gives t c

pub blocks::block-returns-in_err-check_block-clause-gives : goal.blocks::block-returns-in_err-check_block-clause-gives
blocks::block-returns-in_err-check_block-clause-gives t c = blocks.blocks::block-returns-in_err-check_block-clause-gives t c

pub blocks::block-returns-in_err-name-clause-gives : goal.blocks::block-returns-in_err-name-clause-gives
blocks::block-returns-in_err-name-clause-gives t c = blocks.blocks::block-returns-in_err-name-clause-gives t c

pub blocks::block-returns-in_err-finish-clause-gives : goal.blocks::block-returns-in_err-finish-clause-gives
blocks::block-returns-in_err-finish-clause-gives t c = blocks.blocks::block-returns-in_err-finish-clause-gives t c

pub blocks::block-returns-in_err-inside-clause-gives : goal.blocks::block-returns-in_err-inside-clause-gives
blocks::block-returns-in_err-inside-clause-gives t c = blocks.blocks::block-returns-in_err-inside-clause-gives t c

pub blocks::block-returns-in_err-block_end-clause-gives : goal.blocks::block-returns-in_err-block_end-clause-gives
blocks::block-returns-in_err-block_end-clause-gives t c = blocks.blocks::block-returns-in_err-block_end-clause-gives t c

pub blocks::block-returns-clause-gives : goal.blocks::block-returns-clause-gives
blocks::block-returns-clause-gives t c = blocks.blocks::block-returns-clause-gives t c

pub blocks::definition-returns-in_err-check_definition-clause-gives : goal.blocks::definition-returns-in_err-check_definition-clause-gives
blocks::definition-returns-in_err-check_definition-clause-gives t c = blocks.blocks::definition-returns-in_err-check_definition-clause-gives t c

pub blocks::definition-returns-in_err-opened-clause-gives : goal.blocks::definition-returns-in_err-opened-clause-gives
blocks::definition-returns-in_err-opened-clause-gives t c = blocks.blocks::definition-returns-in_err-opened-clause-gives t c

pub blocks::definition-returns-in_err-inside-clause-gives : goal.blocks::definition-returns-in_err-inside-clause-gives
blocks::definition-returns-in_err-inside-clause-gives t c = blocks.blocks::definition-returns-in_err-inside-clause-gives t c

pub blocks::definition-returns-in_err-closing_tag-clause-gives : goal.blocks::definition-returns-in_err-closing_tag-clause-gives
blocks::definition-returns-in_err-closing_tag-clause-gives t c = blocks.blocks::definition-returns-in_err-closing_tag-clause-gives t c

pub blocks::definition-returns-clause-gives : goal.blocks::definition-returns-clause-gives
blocks::definition-returns-clause-gives t c = blocks.blocks::definition-returns-clause-gives t c

pub loops::for_loop-returns-in_err-head-clause-gives : goal.loops::for_loop-returns-in_err-head-clause-gives
loops::for_loop-returns-in_err-head-clause-gives t c = loops.loops::for_loop-returns-in_err-head-clause-gives t c

pub loops::for_loop-returns-in_err-inside-clause-gives : goal.loops::for_loop-returns-in_err-inside-clause-gives
loops::for_loop-returns-in_err-inside-clause-gives t c = loops.loops::for_loop-returns-in_err-inside-clause-gives t c

pub loops::for_loop-returns-in_err-otherwise-clause-gives : goal.loops::for_loop-returns-in_err-otherwise-clause-gives
loops::for_loop-returns-in_err-otherwise-clause-gives t c = loops.loops::for_loop-returns-in_err-otherwise-clause-gives t c

pub loops::for_loop-returns-in_err-closed_tag-clause-gives : goal.loops::for_loop-returns-in_err-closed_tag-clause-gives
loops::for_loop-returns-in_err-closed_tag-clause-gives t c = loops.loops::for_loop-returns-in_err-closed_tag-clause-gives t c

pub loops::for_loop-returns-clause-gives : goal.loops::for_loop-returns-clause-gives
loops::for_loop-returns-clause-gives t c = loops.loops::for_loop-returns-clause-gives t c

pub loops::else_body-returns-then-not-closes-clause-gives : goal.loops::else_body-returns-then-not-closes-clause-gives
loops::else_body-returns-then-not-closes-clause-gives t c = loops.loops::else_body-returns-then-not-closes-clause-gives t c

pub loops::else_body-returns-in_err-take_closer-clause-gives : goal.loops::else_body-returns-in_err-take_closer-clause-gives
loops::else_body-returns-in_err-take_closer-clause-gives t c = loops.loops::else_body-returns-in_err-take_closer-clause-gives t c

pub loops::else_body-returns-in_err-finish-clause-gives : goal.loops::else_body-returns-in_err-finish-clause-gives
loops::else_body-returns-in_err-finish-clause-gives t c = loops.loops::else_body-returns-in_err-finish-clause-gives t c

pub loops::else_body-returns-clause-gives : goal.loops::else_body-returns-clause-gives
loops::else_body-returns-clause-gives t c = loops.loops::else_body-returns-clause-gives t c

pub loops::else_body-returns-clause-later : goal.loops::else_body-returns-clause-later
loops::else_body-returns-clause-later t c = loops.loops::else_body-returns-clause-later t c

pub conditions::condition-returns-in_err-first-clause-gives : goal.conditions::condition-returns-in_err-first-clause-gives
conditions::condition-returns-in_err-first-clause-gives t c = conditions.conditions::condition-returns-in_err-first-clause-gives t c

pub conditions::condition-returns-in_err-others-clause-gives : goal.conditions::condition-returns-in_err-others-clause-gives
conditions::condition-returns-in_err-others-clause-gives t c = conditions.conditions::condition-returns-in_err-others-clause-gives t c

pub conditions::condition-returns-in_err-closed_tag-clause-gives : goal.conditions::condition-returns-in_err-closed_tag-clause-gives
conditions::condition-returns-in_err-closed_tag-clause-gives t c = conditions.conditions::condition-returns-in_err-closed_tag-clause-gives t c

pub conditions::condition-returns-clause-gives : goal.conditions::condition-returns-clause-gives
conditions::condition-returns-clause-gives t c = conditions.conditions::condition-returns-clause-gives t c

pub conditions::read_branch-returns-in_err-condition-clause-gives : goal.conditions::read_branch-returns-in_err-condition-clause-gives
conditions::read_branch-returns-in_err-condition-clause-gives t c = conditions.conditions::read_branch-returns-in_err-condition-clause-gives t c

pub conditions::read_branch-returns-in_err-body-clause-gives : goal.conditions::read_branch-returns-in_err-body-clause-gives
conditions::read_branch-returns-in_err-body-clause-gives t c = conditions.conditions::read_branch-returns-in_err-body-clause-gives t c

pub conditions::read_branch-returns-clause-gives : goal.conditions::read_branch-returns-clause-gives
conditions::read_branch-returns-clause-gives t c = conditions.conditions::read_branch-returns-clause-gives t c

pub conditions::other_branches-branches-init : goal.conditions::other_branches-branches-init
conditions::other_branches-branches-init t c = conditions.conditions::other_branches-branches-init t c

pub conditions::other_branches-returns-in_err-take_closer-clause-gives : goal.conditions::other_branches-returns-in_err-take_closer-clause-gives
conditions::other_branches-returns-in_err-take_closer-clause-gives t c = conditions.conditions::other_branches-returns-in_err-take_closer-clause-gives t c

pub conditions::other_branches-returns-in_err-branch-clause-gives : goal.conditions::other_branches-returns-in_err-branch-clause-gives
conditions::other_branches-returns-in_err-branch-clause-gives t c = conditions.conditions::other_branches-returns-in_err-branch-clause-gives t c

pub conditions::other_branches-branches-preserved : goal.conditions::other_branches-branches-preserved
conditions::other_branches-branches-preserved t c = conditions.conditions::other_branches-branches-preserved t c

pub conditions::other_branches-branches-smaller : goal.conditions::other_branches-branches-smaller
conditions::other_branches-branches-smaller t c = conditions.conditions::other_branches-branches-smaller t c

pub conditions::other_branches-returns-in_err-otherwise-clause-gives : goal.conditions::other_branches-returns-in_err-otherwise-clause-gives
conditions::other_branches-returns-in_err-otherwise-clause-gives t c = conditions.conditions::other_branches-returns-in_err-otherwise-clause-gives t c

pub conditions::other_branches-returns-clause-gives : goal.conditions::other_branches-returns-clause-gives
conditions::other_branches-returns-clause-gives t c = conditions.conditions::other_branches-returns-clause-gives t c

pub items::item-returns-in-Wrong-clause-refusal : goal.items::item-returns-in-Wrong-clause-refusal
items::item-returns-in-Wrong-clause-refusal t c = items.items::item-returns-in-Wrong-clause-refusal t c

pub items::item-returns-in-Wrong-clause-empty : goal.items::item-returns-in-Wrong-clause-empty
items::item-returns-in-Wrong-clause-empty t c = items.items::item-returns-in-Wrong-clause-empty t c

pub bodies::item_node-returns-in_err-added-clause-refusal : goal.bodies::item_node-returns-in_err-added-clause-refusal
bodies::item_node-returns-in_err-added-clause-refusal t c = bodies.bodies::item_node-returns-in_err-added-clause-refusal t c

pub items::item-returns-in_err-added-in-Opens-clause-refusal : goal.items::item-returns-in_err-added-in-Opens-clause-refusal
items::item-returns-in_err-added-in-Opens-clause-refusal t c = items.items::item-returns-in_err-added-in-Opens-clause-refusal t c

pub blocks::definition-returns-in_err-check_definition-clause-refusal : goal.blocks::definition-returns-in_err-check_definition-clause-refusal
blocks::definition-returns-in_err-check_definition-clause-refusal t c = blocks.blocks::definition-returns-in_err-check_definition-clause-refusal t c

pub blocks::definition-returns-in_err-opened-clause-refusal : goal.blocks::definition-returns-in_err-opened-clause-refusal
blocks::definition-returns-in_err-opened-clause-refusal t c = blocks.blocks::definition-returns-in_err-opened-clause-refusal t c

pub blocks::definition-returns-in_err-inside-clause-refusal : goal.blocks::definition-returns-in_err-inside-clause-refusal
blocks::definition-returns-in_err-inside-clause-refusal t c = blocks.blocks::definition-returns-in_err-inside-clause-refusal t c

pub blocks::definition-returns-in_err-closing_tag-clause-refusal : goal.blocks::definition-returns-in_err-closing_tag-clause-refusal
blocks::definition-returns-in_err-closing_tag-clause-refusal t c = blocks.blocks::definition-returns-in_err-closing_tag-clause-refusal t c
