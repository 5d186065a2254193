use lib.Seq.{length-take-le}
use mathlib.Core.Path.{sym}
use Rattle.list_image.proofs.main.Goals as goal

pub slice_bounds-output-end : goal.slice_bounds-output-end
slice_bounds-output-end c = c.list-k.ensures.fits

pub slice_bounds-write_all-end : goal.slice_bounds-write_all-end
slice_bounds-write_all-end c = sym (length-take-le _ _ c.list-k.ensures.fits)
