-- The bench samples B1 to B10 hold of the definitions, by computation. Files are checked by name, after those they use: by its name this one comes
-- first, so that an edit of a definition that a sample refutes (must-fail/) is refused here. Assumes nothing.
use mathlib.Core.Path.{refl}
use mathlib.Core.List.{flat_map}
use Rattle.rules.specs.Lists.{all, any, keep, first_of, among, up_from, down_from, same}
use Rattle.rules.specs.Catalogue.{is_of, in_range}
use Rattle.rules.specs.Selection.{asked, reached_in, is_valid, next_modules}
use Rattle.rules.specs.Search.{barring, trial_by, try_each, search_from, search, best, trials_of}
use Rattle.rules.specs.Sheet.{need_line, resolved, refutes, lines_from, entries_fit, is_refuting}
use Rattle.rules.specs.Samples.{Samples, samples, is_found, is_none, row_holds}

pub samples_hold : Samples
unfolding all any keep first_of among up_from down_from same flat_map is_of in_range asked reached_in is_valid next_modules
    barring trial_by try_each search_from search best trials_of need_line resolved refutes lines_from entries_fit is_refuting samples is_found is_none row_holds
samples_hold = refl
