use Rattle.std.proofs.Common.{◌≡◌, ◌++◌, ◌∷◌, []}
use Rattle.std.specs.Prelude.{decimal}
use Rattle.job_live.proofs.PutText.{code_after, code_put}
use Rattle.job_live.proofs.putting.put_code.Goals as goal

pub returns : goal.returns
returns c =
    let put : c.put.new.text.items ≡ c.args.text.now.items ++ (decimal c.args.code ++ 10 ∷ []) =
    code_put _ _ c.args.code c.requires.small c.put.ensures.items in
    record { items = put; following = λ begun words is. code_after _ _ c.args.code begun words put is }
