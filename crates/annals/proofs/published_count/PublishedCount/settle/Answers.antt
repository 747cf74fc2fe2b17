use Rattle.std.proofs.Common.{◌≤◌, ◌<◌, arith, sym}
use Rattle.std.proofs.lemmas.Bool.Decides.{nat_tests}
use Rattle.annals.specs.Publishes.{publishes_of}
use Rattle.annals.specs.Shown.{shown_in}
use Rattle.lemmas.proofs.Prefixes.{prefix_length}
use Rattle.annals.proofs.Listing.{between_seen, shown_grows, taken_at}
use Rattle.annals.proofs.Publishings.{publishes_begin}
use Rattle.annals.proofs.published_count.PublishedCount.settle.Goals as goal

pub loop-shown-init : goal.loop-shown-init
loop-shown-init g c = (
  c.learn.ensures.this,
  c.learn.ensures.that,
  omega (arith, c.requires.least, shown_grows c.args.front.now c.learn.new.self c.learn.ensures.this),
)

pub raise-requires-clause-published : goal.raise-requires-clause-published
raise-requires-clause-published g c =
    let table = c.args.table.now in
    let front = c.loop-shown.front in
    let grown = prefix_length (publishes_of table) (publishes_of front) (publishes_begin table front c.loop-shown.invariant.1) in
    let more : c.loop-shown.shown < c.args.count = grind (arith, nat_tests, c.loop-shown-test.true) in
    omega (arith, c.requires.count, grown, more)

pub returns-clause-taken : goal.returns-clause-taken
returns-clause-taken g c = λ far.
    let known = c.args.front.now in
    let reached = c.loop-shown.front in
    let was = c.loop-shown.invariant in
    let least : c.args.least ≤ c.args.count = grind (arith, nat_tests, far) in
    let low : shown_in known ≤ c.args.count = omega (arith, c.requires.least, least) in
    let high : c.args.count ≤ shown_in reached = grind (arith, nat_tests, c.loop-shown-test.false, was.2) in
    taken_at known reached c.args.table.now c.args.count (between_seen known reached c.args.count was.0 low high) c.is_listed.ensures was.1 (sym c.requires.count)

pub returns-clause-shown : goal.returns-clause-shown
returns-clause-shown g c = let was = c.loop-shown.invariant in grind (arith, nat_tests, c.loop-shown-test.false, was.2)

pub returns-clause-listed : goal.returns-clause-listed
returns-clause-listed g c = c.is_listed.ensures
