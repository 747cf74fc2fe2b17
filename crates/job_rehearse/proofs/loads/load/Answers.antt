use Rattle.std.proofs.Common.{◌∙◌, ℕ, Bool, List, ap, subst, sym, rules}
use Rattle.job_rehearse.specs.Loads.{AreLoaded, ending_of}
use Rattle.std.proofs.lemmas.Result.{err_from_is_err_and}
use Rattle.job_rehearse.proofs.Loading.{each_loaded}
use Rattle.job_rehearse.proofs.Stopping.{room_stops}
use Rattle.job_rehearse.proofs.loads.load.Goals as goal

pub returns-clause-loads : goal.returns-clause-loads
returns-clause-loads g c =
    let image = c.args.load.image.now in
    let slots = c.args.load.slots.now in
    let after = c.take_load.new.rehearsing in
    let loaded = c.in_ok-loaded.loaded.items in
    let are = subst (λ (n : ℕ). AreLoaded image n after.node.programs slots loaded) c.loaded-before.ensures c.in_ok-loaded.ensures in
    let ended = c.ending_of.ensures ∙ ap (λ (l : List Bool). ending_of l after.refused after.failed) c.as_slice.ensures.value in
    record {
      named = _;
      heading = search rules;
      taken = c.in_ok-take_load.ensures.taken;
      loaded = loaded;
      are_loaded = are;
      ended = ended;
      each = λ whole number slot at. each_loaded image _ after.node.programs slots loaded after.refused after.failed are (sym ended ∙ whole) number slot at;
    }

pub returns-in_err-loaded-clause-stops : goal.returns-in_err-loaded-clause-stops
returns-in_err-loaded-clause-stops g c =
    let gone = err_from_is_err_and c.from_residual-in_err-loaded.result c.from_residual-in_err-loaded.ensures.1 in
    rw (gone.1, gone.2) (room_stops _ _ _ _ _ _ _ _ _ (search rules) c.in_ok-take_load.ensures.taken)
