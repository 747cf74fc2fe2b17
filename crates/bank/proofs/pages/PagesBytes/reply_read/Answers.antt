use Rattle.std.proofs.Common.{◌≡◌, ◌<◌, ◌≤◌, ◌-◌, ◌%◌, ◌+◌, ℕ, List, length, take, drop, arith, ◌∙◌, ap, sym, true, inr}
use Rattle.rmap.specs.Command.{address_of, increments}
use Rattle.rmap.specs.Reply.{reply_of}
use Rattle.rmap.specs.declared.status.Status.TheVariants.{Success}
use Rattle.bank.specs.Effect.{Memory, memory_at}
use Rattle.bank.proofs.Paging.{slice_is_part, read_in_part, is_within_slice, joined_slice}
use Rattle.bank.specs.Laws.{IsPartOf}
use Rattle.std.proofs.Math.Nat.{mod-lt}
use Rattle.std.proofs.lemmas.List.{length-take, length-drop}
use Rattle.bank.proofs.pages.PagesBytes.reply_read.Goals as goal

pub returns-then-count-bytes : goal.returns-then-count-bytes
returns-then-count-bytes c =
    let m : Memory = memory_at c.args.first c.args.self.now in
    let command = c.args.command.now in
    let address = c.address-address.result in
    let offset = address - c.args.first in
    let is : address ≡ address_of command = c.address-address.ensures in
    let low = c.requires.within.above in
    let high = c.requires.within.below in
    let place : address ≡ c.args.first + offset = omega arith in
    let bytes = c.from-bytes.result.now in
    let part : IsPartOf m (memory_at address bytes) = rw c.from-bytes.ensures (slice_is_part m offset (4096 - offset % 4096) address place (omega arith)) in
    let small : offset % 4096 < 4096 = mod-lt offset (omega arith) in
    let some : 0 < length bytes = omega (arith, ap (λ (l : List ℕ). length l) c.from-bytes.ensures, length-take (4096 - offset % 4096) (drop offset c.args.self.now), length-drop offset c.args.self.now, small) in
    let within = is_within_slice command address (length bytes) c.args.count c.increments.result is some c.increments.ensures c.if-count-bytes.either in
    c.reply_read.ensures ∙ ap (λ (l : List ℕ). reply_of command Success l) (read_in_part m (memory_at address bytes) command c.args.count part within)

pub returns-else-count-bytes : goal.returns-else-count-bytes
returns-else-count-bytes c =
    let now = c.args.self.now in
    let m : Memory = memory_at c.args.first now in
    let command = c.args.command.now in
    let address = c.address-address.result in
    let offset = address - c.args.first in
    let count = c.args.count in
    let is : address ≡ address_of command = c.address-address.ensures in
    let low = c.requires.within.above in
    let high = c.requires.within.below in
    let place : address ≡ c.args.first + offset = omega arith in
    let bytes = c.from-bytes.result.now in
    let next = c.from.result.now in
    let a = 4096 - offset % 4096 in
    let b = 4096 - (offset + length bytes) % 4096 in
    let more : length bytes < count = c.if-count-bytes.false.1 in
    let goes : increments command ≡ true = sym c.increments.ensures ∙ c.if-count-bytes.false.0 in
    let all = c.requires.within.all goes in
    let few = c.requires.few in
    let size = ap (λ (l : List ℕ). length l) c.from-bytes.ensures in
    let next_size = ap (λ (l : List ℕ). length l) c.from.ensures in
    let enough : count - length bytes ≤ length next = omega (arith, size, next_size, length-take a (drop offset now), length-drop offset now, length-take b (drop (offset + length bytes) now), length-drop (offset + length bytes) now) in
    let slice : take count c.joined.result ≡ take count (drop offset now) = joined_slice now bytes next c.joined.result offset count a b c.from-bytes.ensures c.from.ensures c.joined.ensures more enough in
    let part : IsPartOf m (memory_at address (take count c.joined.result)) = rw slice (slice_is_part m offset count address place (omega arith)) in
    let long : length (take count c.joined.result) ≡ count = omega (arith, ap (λ (l : List ℕ). length l) slice, length-take count (drop offset now), length-drop offset now) in
    let within = is_within_slice command address (length (take count c.joined.result)) count c.increments.result is (omega arith) c.increments.ensures (inr (c.if-count-bytes.false.0, omega arith)) in
    c.reply_read-else-count-bytes.ensures ∙ ap (λ (l : List ℕ). reply_of command Success l) (read_in_part m (memory_at address (take count c.joined.result)) command count part within)
