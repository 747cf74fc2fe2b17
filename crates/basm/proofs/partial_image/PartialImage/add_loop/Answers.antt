use Rattle.std.proofs.Common.{◌≡◌, ◌∷◌, ◌++◌, [], Ok, Err, Result, sym, ap, ◌∙◌, arith}
use Rattle.std.proofs.lemmas.List.{append-nil}
use Rattle.std.specs.Result.{is_ok}
use Rattle.std.proofs.lemmas.Bool.{true≢false}
use Rattle.std.proofs.lemmas.Result.{IfOk-at_ok}
use Rattle.bpf.specs.declared.loops.Loop.{Loop}
use Rattle.basm.specs.declared.faults.AsmCode.{AsmCode}
use Rattle.basm.proofs.partial_image.PartialImage.add_loop.Goals as goal

-- the loop that was read
loop_of : Loop → Result (Loop × Unit {0}) AsmCode → Loop
loop_of default (Ok pair) = pair.0
loop_of default (Err code) = default

pub returns-in_err-found-clause-exact : goal.returns-in_err-found-clause-exact
returns-in_err-found-clause-exact c = λ l four room.
    let read = c.read_loop.ensures.exact l room.0 room.1 four in
    let both = IfOk-at_ok _ (c.loop_room.ensures room.3) (IfOk-at_ok _ read c.both.ensures.exact) in
    absurd (true≢false (ap is_ok (sym both ∙ c.in_err-found.was)))

pub returns-clause-exact : goal.returns-clause-exact
unfolding loop_of
returns-clause-exact c = λ l four room.
    let read = c.read_loop.ensures.exact l room.0 room.1 four in
    let both = IfOk-at_ok _ (c.loop_room.ensures room.3) (IfOk-at_ok _ read c.both.ensures.exact) in
    let same : c.in_ok-found.found ≡ l = ap (loop_of l) (sym c.in_ok-found.was ∙ both) in
    record {
      version = sym (append-nil _);
      budget = sym (append-nil _);
      loops = c.in_ok-push.ensures.items ∙ ap (λ (x : Loop). c.args.self.now.loops.items ++ x ∷ []) same;
      insns = sym (append-nil _);
      slots = omega arith;
    }
