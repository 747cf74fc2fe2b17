use Rattle.std.proofs.Common.{◌≡◌, ◌+◌, ◌≤◌, ◌++◌, length}
use Rattle.std.specs.List.{All}
use Rattle.std.specs.Vec.Iter.{into_iter_items, into_iter_len}
use Rattle.annals.specs.Banks.{IsFresh}
use Rattle.target.specs.Nodes.{AreInPlace}
use Rattle.target.specs.Unshared.{banks_of, chain_numbers}
use Rattle.target.proofs.unshared.kept_banks.Given as goal

-- each bank has the chain of its number, or is to come
abbrev pub invariant-loop-bank : goal.invariant-loop-bank
invariant-loop-bank g l = record {
  all : l.number + into_iter_len l.bank-iterator ≡ length l.fn.banks;
  few : length l.fn.banks ≤ 8;
  count : length l.all.items ≡ l.number;
  numbers : AreInPlace (chain_numbers l.all.items);
  banks : banks_of l.all.items ++ into_iter_items l.bank-iterator ≡ l.fn.banks;
  family : l.history.0 ≡ g.J.Family.book;
  chains : l.number + l.history.1 ≡ 42;
  book : l.history.0 ≡ l.initial.history.0;
  fresh : All IsFresh (into_iter_items l.bank-iterator);
}
