use Rattle.std.proofs.Common.{rules, refl, arith}
use Rattle.std.proofs.lemmas.Result.{err_from_is_err_and}
use Rattle.job_nodes.proofs.Continuing.{IsPieceAt, goes_on, ends, overfills, unended}
use Rattle.job_nodes.proofs.feeds.Feeds.take_line.Goals as goal

pub returns-in_default-clause-fed : goal.returns-in_default-clause-fed
returns-in_default-clause-fed c =
    let piece : IsPieceAt c.args.line.now c.self.inside.feeds.items c.args.self.now c.in_ok-port.port c.from-place.result c.index_mut-feed.result.now c.deref.result.now c.in_ok-port.mark = search rules in
    goes_on piece c.in_ok-piece.ensures.ok c.in_default.is (λ long. cc (c.in_ok-piece.ensures.too_long.1 long))

pub returns-clause-fed : goal.returns-clause-fed
returns-clause-fed c =
    let piece : IsPieceAt c.args.line.now c.self.inside.feeds.items c.args.self.now c.in_ok-port.port c.from-place.result c.index_mut-feed.result.now c.in_ok-port.piece.items c.in_ok-port.mark = search rules in
    ends piece refl _ _ _ c.in_ok-packet.ensures.ok c.in_ok-packet.ensures.empty c.in-Some.is (λ long. omega (arith, long, c.in_ok-packet.ensures.short))

pub returns-in_err-piece-clause-refused : goal.returns-in_err-piece-clause-refused
returns-in_err-piece-clause-refused c =
    let piece : IsPieceAt c.args.line.now c.self.inside.feeds.items c.args.self.now c.in_ok-port.port c.from-place.result c.index_mut-feed.result.now c.deref.result.now c.in_ok-port.mark = search rules in
    let gone = err_from_is_err_and c.from_residual-in_err-piece.result c.from_residual-in_err-piece.ensures.1 in
    rw (gone.1, gone.2)
    (overfills piece refl _ _ c.in_err-piece.ensures.err c.in_err-piece.ensures.kept (c.in_err-piece.ensures.too_long.0 (cc c.in_err-piece.ensures.err)))

pub returns-in_err-packet-clause-refused : goal.returns-in_err-packet-clause-refused
returns-in_err-packet-clause-refused c =
    let piece : IsPieceAt c.args.line.now c.self.inside.feeds.items c.args.self.now c.in_ok-port.port c.from-place.result c.index_mut-feed.result.now c.in_ok-port.piece.items c.in_ok-port.mark = search rules in
    let gone = err_from_is_err_and c.from_residual-in_err-packet.result c.from_residual-in_err-packet.ensures.1 in
    rw (gone.1, gone.2) (unended piece refl _ _ _ c.in-Some.is c.in_err-packet.ensures.err)
