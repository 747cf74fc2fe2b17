use Rattle.std.proofs.Common.{◌<◌, ◌∙◌, length, map, sym, ap, subst}
use Rattle.bank.specs.Records.{extent_of}
use Rattle.annals.specs.declared.deed.Act.TheVariants.{Sets}
use Rattle.annals.specs.declared.deed.Deed.TheVariants.{Does}
use Rattle.annals.specs.Chains.{IsLastDeed, line_with}
use Rattle.target.proofs.Setting.{IsFoundAt, extents_with, found_inside, found_number, found_numbers, found_set, place_below}
use Rattle.target.proofs.unshared.UnsharedNode.set.Goals as goal

pub index_mut-kept-requires : goal.index_mut-kept-requires
index_mut-kept-requires g c =
    subst (λ n. c.from.result < n) (sym c.self.inside.banks.ok.0) (place_below c.args.self.now c.self.inside.banks.items c.args.number c.from.result c.args.address _ c.self.view_is c.from.ensures c.requires.inside)

pub set-journal-requires-clause-inside : goal.set-journal-requires-clause-inside
set-journal-requires-clause-inside g c =
    let found : IsFoundAt c.args.self.now c.self.inside.banks.items c.args.number c.from.result c.args.address (length c.args.bytes.now) c.index_mut-kept.result.now
    = record { view_is = c.self.view_is; place_is = c.from.ensures; read = c.index_mut-kept.ensures.value; inside = c.requires.inside } in
    found_inside found

pub invariant_of-self : goal.invariant_of-self
invariant_of-self g c =
    let found : IsFoundAt c.args.self.now c.self.inside.banks.items c.args.number c.from.result c.args.address (length c.args.bytes.now) c.index_mut-kept.result.now
    = record { view_is = c.self.view_is; place_is = c.from.ensures; read = c.index_mut-kept.ensures.value; inside = c.requires.inside } in
    (found_numbers c.set-journal.new.self found c.self.invariant.0 c.set-journal.ensures.number, c.self.invariant.1)

pub returns-clause-banks : goal.returns-clause-banks
returns-clause-banks g c =
    let found : IsFoundAt c.args.self.now c.self.inside.banks.items c.args.number c.from.result c.args.address (length c.args.bytes.now) c.index_mut-kept.result.now
    = record { view_is = c.self.view_is; place_is = c.from.ensures; read = c.index_mut-kept.ensures.value; inside = c.requires.inside } in
    found_set c.args.bytes.now c.args.fresh c.set-journal.new.self found c.set-journal.ensures.bank

pub returns-clause-extents : goal.returns-clause-extents
returns-clause-extents g c =
    ap (λ l. map extent_of l) (returns-clause-banks g c) ∙ extents_with c.args.self.now c.args.number c.args.address c.args.bytes.now c.args.fresh c.requires.inside

pub returns-clause-last : goal.returns-clause-last
returns-clause-last g c =
    let found : IsFoundAt c.args.self.now c.self.inside.banks.items c.args.number c.from.result c.args.address (length c.args.bytes.now) c.index_mut-kept.result.now
    = record { view_is = c.self.view_is; place_is = c.from.ensures; read = c.index_mut-kept.ensures.value; inside = c.requires.inside } in
    subst (λ n. IsLastDeed n c.args.front.now c.set-journal.new.front (Does (Sets (c.args.address, c.args.bytes.now)))) (found_number found c.self.invariant.0) c.set-journal.ensures.last

pub returns-clause-asked : goal.returns-clause-asked
returns-clause-asked g c =
    let found : IsFoundAt c.args.self.now c.self.inside.banks.items c.args.number c.from.result c.args.address (length c.args.bytes.now) c.index_mut-kept.result.now
    = record { view_is = c.self.view_is; place_is = c.from.ensures; read = c.index_mut-kept.ensures.value; inside = c.requires.inside } in
    c.set-journal.ensures.asked ∙ ap (λ n. line_with c.args.line.now n (Sets (c.args.address, c.args.bytes.now))) (found_number found c.self.invariant.0)
