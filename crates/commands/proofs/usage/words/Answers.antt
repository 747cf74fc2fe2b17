use Rattle.std.proofs.Common.{◌≡◌, ◌∙◌, [], ap, subst, IfOk, IfErr}
use Rattle.std.proofs.lemmas.Result.{IfErr-weaker, IfOk-weaker}
use Rattle.clap.specs.Walk.{texts}
use Rattle.clap.specs.Simple.{is_simple, subcommand_of, subcommand_rows_of}
use Rattle.clap.specs.Faults.{fault_of, is_simple_and_free}
use Rattle.clap.specs.Kinds.{HasKind}
use Rattle.commands.specs.CommandLine.{subcommand_in, AreWordsTaken, Names, LacksWork}
use Rattle.commands.proofs.Matching.{is_simple-rmapctl_app, is_free-rmapctl_app, lacks_work, refused_words}
use Rattle.commands.proofs.usage.words.Goals as goal

pub returns-in-Ok-clause-ok : goal.returns-in-Ok-clause-ok
returns-in-Ok-clause-ok c =
    let words = texts c.args.words.now in
    let app = c.in_ok-command.ensures in
    let found : subcommand_rows_of c.in-Ok.found ≡ subcommand_in words =
    (c.in-Ok.ensures.matches (ap is_simple app ∙ is_simple-rmapctl_app)).1 ∙ ap (λ a. subcommand_of a words) app in
    let kinds = c.in-Ok.ensures.kinds (ap is_simple_and_free app ∙ is_free-rmapctl_app) in
    let taken : AreWordsTaken words = subst (λ a. fault_of a words ≡ []) app kinds in
    IfOk-weaker c.work_of.result _ _ (λ job h. (taken, h)) (subst (λ f. IfOk c.work_of.result (Names f)) found c.work_of.ensures.ok)

pub returns-in-Ok-clause-err : goal.returns-in-Ok-clause-err
returns-in-Ok-clause-err c =
    let words = texts c.args.words.now in
    let app = c.in_ok-command.ensures in
    let found : subcommand_rows_of c.in-Ok.found ≡ subcommand_in words =
    (c.in-Ok.ensures.matches (ap is_simple app ∙ is_simple-rmapctl_app)).1 ∙ ap (λ a. subcommand_of a words) app in
    let kinds = c.in-Ok.ensures.kinds (ap is_simple_and_free app ∙ is_free-rmapctl_app) in
    let taken : AreWordsTaken words = subst (λ a. fault_of a words ≡ []) app kinds in
    IfErr-weaker c.work_of.result _ _ (λ fault h. lacks_work words fault taken h)
    (subst (λ f. IfErr c.work_of.result (LacksWork f)) found c.work_of.ensures.err)

pub returns-in-Err-clause-err : goal.returns-in-Err-clause-err
returns-in-Err-clause-err c =
    let words = texts c.args.words.now in
    let app = c.in_ok-command.ensures in
    let kinds = c.in-Err.ensures.kinds (ap is_simple_and_free app ∙ is_free-rmapctl_app) in
    refused_words words c.in-Err.refusal c.reported.result c.reported.ensures
    (subst (λ a. HasKind (fault_of a words) c.in-Err.refusal) app kinds)
