use Rattle.std.proofs.Common.{◌≡◌, ◌+◌, ◌-◌, ◌++◌, length, take, drop, arith, refl}
use borrow.Rule.Slice.PartMut.{put_mid}
use Rattle.bank.proofs.Paging.{put_takes}
use Rattle.bank.proofs.pages.put_at.Goals as goal

pub returns-clause-value : goal.returns-clause-value
returns-clause-value c =
    let start = c.args.start in
    let part = c.args.part.now in
    let old = c.args.bytes.now in
    let k = start + length part - start in
    let list : put_mid start k old c.copy_from_slice.new.self ≡ take start old ++ (part ++ drop k (drop start old)) = rw c.copy_from_slice.ensures.after refl in
    rw list (put_takes start old part (drop k (drop start old)) (omega (arith, c.requires)))
