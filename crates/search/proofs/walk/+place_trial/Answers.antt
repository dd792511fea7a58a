-- The proof of the cycle of calls {place, trial}: each way out is a lemma of proofs/Walks.antt.
use mathlib.Core.Path.{refl, sym, ◌∙◌, ap}
use Rattle.store.specs.declared.lookup.Span.{Span}
use Rattle.moves.specs.Noting.{sheet_of}
use Rattle.search.specs.Choosing.{falling}
use Rattle.search.specs.Walking.{moves_in, walk_in}
use Rattle.search.proofs.Walks.{found_is, failed_is, both_told, try_with, note_with, try_barred, try_found, try_failed}
use Rattle.search.proofs.Walks.{place_out, place_found, place_begun, going_found, going_on, going_done}
use Rattle.search.proofs.walk.+place_trial.Goals as goal

-- PLACE
pub place-returns-then-unsettled-eq0 : goal.place-returns-then-unsettled-eq0
place-returns-then-unsettled-eq0 t c =
    let a = c.args in
    let v = moves_in a.t.now a.modules in
    let both = both_told (place_out v a.sheet.now.allowance a.choices (sheet_of a.sheet.now) a.unsettled c.if-unsettled-eq0.true) in
    record { told = both.0; sheet = record { same = refl; allowance = refl; sheet = both.1 } }

pub place-returns-in_default : goal.place-returns-in_default
place-returns-in_default t c =
    let a = c.args in
    let v = moves_in a.t.now a.modules in
    let both = both_told (place_found v a.sheet.now.allowance a.choices (sheet_of a.sheet.now)
    c.next_module-record.ensures a.unsettled c.if-unsettled-eq0.false (sym c.if_any.ensures ∙ c.in_default.is)) in
    record { told = both.0; sheet = record { same = refl; allowance = refl; sheet = both.1 } }

pub place-loop-untried-init : goal.place-loop-untried-init
place-loop-untried-init t c =
    let a = c.args in
    let v = moves_in a.t.now a.modules in
    record {
      same = c.cite.ensures.same;
      allowance = c.cite.ensures.allowance;
      goes = record {
        same = place_begun v a.sheet.now.allowance a.choices (sheet_of a.sheet.now) c.next_module-record.ensures
            a.unsettled c.if-unsettled-eq0.false (sym c.if_any.ensures ∙ c.in-Some.is) (ap (λ (s : Span). falling s.first s.count) c.versions-versions.ensures)
            c.cite.ensures.sheet;
      };
    }

pub place-returns-in-Ok : goal.place-returns-in-Ok
place-returns-in-Ok t c =
    let ended = try_with _ _ _ _ _ _ c.loop-untried.invariant.allowance (found_is c.in-Ok.ensures.told c.in-Ok.ensures.sheet.sheet) in
    let both = both_told (going_found _ _ _ _ _ c.loop-untried.invariant.goes c.loop-untried-test.true ended refl) in
    let left = c.in-Ok.ensures.sheet in
    record {
      told = both.0;
      sheet = record {
        same = left.same ∙ c.loop-untried.invariant.same;
        allowance = left.allowance ∙ c.loop-untried.invariant.allowance;
        sheet = both.1;
      };
    }

pub place-loop-untried-preserved : goal.place-loop-untried-preserved
place-loop-untried-preserved t c =
    let ended = try_with _ _ _ _ _ _ c.loop-untried.invariant.allowance (failed_is c.in-Err.ensures.told c.in-Err.ensures.sheet.sheet) in
    record {
      same = c.resolve.ensures.same ∙ c.in-Err.ensures.sheet.same ∙ c.loop-untried.invariant.same;
      allowance = c.resolve.ensures.allowance ∙ c.in-Err.ensures.sheet.allowance ∙ c.loop-untried.invariant.allowance;
      goes = going_on _ _ _ _ _ c.loop-untried.invariant.goes c.loop-untried-test.true ended refl c.one_less.ensures
          (note_with _ _ (c.in-Err.ensures.sheet.allowance ∙ c.loop-untried.invariant.allowance) c.resolve.ensures.sheet);
    }

pub place-returns : goal.place-returns
place-returns t c =
    let both = both_told (going_done _ _ _ _ _ c.loop-untried.invariant.goes c.loop-untried-test.false) in
    record { told = both.0; sheet = record { same = c.loop-untried.invariant.same; allowance = c.loop-untried.invariant.allowance; sheet = both.1 } }

-- TRIAL
pub trial-returns-then-not-fits : goal.trial-returns-then-not-fits
trial-returns-then-not-fits t c =
    let a = c.args in
    let v = moves_in a.t.now a.modules in
    let go = walk_in a.unsettled v a.sheet.now.allowance in
    let both = both_told (try_barred v a.sheet.now.allowance go a.w a.p.0 a.choices (sheet_of a.sheet.now) c.fits-fits.ensures
    c.if-not-fits.true c.cite_bar.ensures.sheet) in
    record { told = both.0; sheet = record { same = c.cite_bar.ensures.same; allowance = c.cite_bar.ensures.allowance; sheet = both.1 } }

pub trial-returns-in-Ok : goal.trial-returns-in-Ok
trial-returns-in-Ok t c =
    let a = c.args in
    let v = moves_in a.t.now a.modules in
    let go = walk_in a.unsettled v a.sheet.now.allowance in
    let ended = found_is c.in-Ok.ensures.told c.in-Ok.ensures.sheet.sheet in
    let both = both_told (try_found v a.sheet.now.allowance go a.w a.p.0 a.choices (sheet_of a.sheet.now) c.fits-fits.ensures
    c.if-not-fits.false c.choose-chosen.ensures ended refl) in
    record { told = both.0; sheet = record { same = c.in-Ok.ensures.sheet.same; allowance = c.in-Ok.ensures.sheet.allowance; sheet = both.1 } }

pub trial-returns-in-Err : goal.trial-returns-in-Err
trial-returns-in-Err t c =
    let a = c.args in
    let v = moves_in a.t.now a.modules in
    let go = walk_in a.unsettled v a.sheet.now.allowance in
    let ended = failed_is c.in-Err.ensures.told c.in-Err.ensures.sheet.sheet in
    let both = both_told (try_failed v a.sheet.now.allowance go a.w a.p.0 a.choices (sheet_of a.sheet.now) c.fits-fits.ensures
    c.if-not-fits.false c.choose-chosen.ensures ended refl c.take_back.ensures) in
    record { told = both.0; sheet = record { same = c.in-Err.ensures.sheet.same; allowance = c.in-Err.ensures.sheet.allowance; sheet = both.1 } }
