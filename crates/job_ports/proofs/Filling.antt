-- Ports that are filled in turn.
use Rattle.std.proofs.Common.{◌≡◌, ◌<◌, ◌≤◌, ◌+◌, ℕ, List, [], ◌∷◌, ◌++◌, length, map, get_or, sym, ap, ◌∙◌, subst, arith}
use Rattle.std.specs.Prelude.{slice_index_or}
use Rattle.std.proofs.lemmas.List.{get_or-map, length-append, length-map}
use Rattle.spw.specs.Cargo.{Cargo}
use Rattle.ports.specs.Queue.{IsPutPassOf, IsServePassOf, put_of, taken_of}
use Rattle.ports.specs.declared.item.Item.TheVariants.{Data, Mark}
use Rattle.ports.specs.declared.port.Port.{Port}
use Rattle.ports.specs.declared.port.PutPass.{PutPass}
use Rattle.ports.specs.declared.port.ServePass.{ServePass}
use Rattle.job_ports.specs.Queues.{AreFew, AreFilled, IsQueueFilled}
use Rattle.lemmas.proofs.Pairs.{paired}

-- One port more.
filled_more : (by_port : List (List Cargo)) (ports : List Port) (puts : List PutPass) (serves : List ServePass) (packets : List Cargo) (port : Port) (put : PutPass) (serve : ServePass)
    → AreFilled by_port ports puts serves → IsQueueFilled packets port put serve → AreFilled (by_port ++ packets ∷ []) (ports ++ port ∷ []) (puts ++ put ∷ []) (serves ++ serve ∷ [])
filled_more by_port ports puts serves packets port put serve was is =
    let many = length-append by_port (packets ∷ []) in record {
      ports_count = omega (arith, was.ports_count, many, length-append ports (port ∷ []));
      puts_count = omega (arith, was.puts_count, many, length-append puts (put ∷ []));
      serves_count = omega (arith, was.serves_count, many, length-append serves (serve ∷ []));
      puts = λ k p q low. paired IsPutPassOf ports puts port put (was.puts_count ∙ sym was.ports_count) (λ i x y less. was.puts i x y (omega (arith, less, was.ports_count))) is.puts k p q (omega (arith, low, many, was.ports_count));
      serves = λ k p q low. paired IsServePassOf ports serves port serve (was.serves_count ∙ sym was.ports_count) (λ i x y less. was.serves i x y (omega (arith, less, was.ports_count))) is.serves k p q (omega (arith, low, many, was.ports_count));
      put = λ k l q low. paired (λ (l : List Cargo) (q : PutPass). put_of q ≡ map Data l ++ Mark ∷ []) by_port puts packets put was.puts_count was.put is.put k l q (omega (arith, low, many));
      taken = λ k l q low. paired (λ (l : List Cargo) (q : ServePass). taken_of q ≡ []) by_port serves packets serve was.serves_count was.taken is.taken k l q (omega (arith, low, many));
    }

-- One port more, if each list grew.
pub fills_more : {by_port by_port' : List (List Cargo)} {ports ports' : List Port} {puts puts' : List PutPass} {serves serves' : List ServePass} {packets : List Cargo} {port : Port} {put : PutPass} {serve : ServePass}
    → AreFilled by_port ports puts serves → IsQueueFilled packets port put serve
    → by_port' ≡ by_port ++ packets ∷ [] → ports' ≡ ports ++ port ∷ [] → puts' ≡ puts ++ put ∷ [] → serves' ≡ serves ++ serve ∷ []
    → AreFilled by_port' ports' puts' serves'
fills_more {by_port} {by_port'} {ports} {ports'} {puts} {puts'} {serves} {serves'} {packets} {port} {put} {serve} was is a b c d =
    rw (a, b, c, d) (filled_more by_port ports puts serves packets port put serve was is)

-- The packets of one port are few.
pub few_here : {X : Type 0} (shown : X → List Cargo) (all : List X) (by_port : List (List Cargo)) (k : ℕ) (own : X) → map shown all ≡ by_port → AreFew by_port → k < length all → own ≡ get_or all k own
    → length (shown own) ≤ 1023
few_here shown all by_port k own is few below found =
    let same : slice_index_or by_port k [] ≡ shown own = ap (λ (t : List (List Cargo)). get_or t k []) (sym is) ∙ get_or-map shown all k own [] below ∙ ap shown (sym found) in
    subst (λ (l : List Cargo). length l ≤ 1023) same (few k (omega (arith, below, length-map all shown, ap (λ (t : List (List Cargo)). length t) is)))
