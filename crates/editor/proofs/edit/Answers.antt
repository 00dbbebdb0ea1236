-- What stands between the breaks at the ends is what is edited.
use Rattle.spec.specs.Editing.{edit_answer}
use Rattle.editor.proofs.Walking.{from_most, between_edited}
use Rattle.editor.proofs.edit.Goals as goal

pub slice_bounds-edit_between-count : goal.slice_bounds-edit_between-count
unfolding edit_answer
slice_bounds-edit_between-count c = from_most _ c.last_breaks-end.ensures c.first_breaks-from.ensures

pub slice_bounds-edit_between-start : goal.slice_bounds-edit_between-start
unfolding edit_answer
slice_bounds-edit_between-start c = from_most _ c.last_breaks-end.ensures c.first_breaks-from.ensures

pub returns : goal.returns
unfolding edit_answer
returns c = rw (between_edited _ c.last_breaks-end.ensures c.first_breaks-from.ensures) at c.edit_between.ensures
