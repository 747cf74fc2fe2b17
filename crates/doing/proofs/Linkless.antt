-- If there is no link, nothing is said of one.
use Rattle.std.proofs.Common.{inl, inr, Bool, true, false, List}
use Rattle.std.specs.declared.alloc.Global.{Global}
use Rattle.clap.specs.Walk.{Text}
use Rattle.commands.specs.Driven.{DoesTalk, DoesWork, LinkWords, TalkWords, DoesGiven}
use Rattle.commands.specs.declared.driver.End.{End}
use Rattle.commands.specs.declared.work.Work.{Work}
use Rattle.commands.specs.declared.work.Work.TheVariants.{Once, OnNode, Live, Printed}
use Rattle.job_live.specs.declared.words.LiveWords.{LiveWords}
use Rattle.doing.specs.Desks.{PageLink, PageTalk, page_words}
use Rattle.doing.specs.declared.desk.PageDesk.{PageDesk}

module _ (E : Type 0) (talk : TalkWords (PageTalk Global)) (one other : LinkWords (PageLink Global)) (start : PageDesk) (end : End)
    (stop : PageDesk) where
  -- a talk in frames is left out
  talked : (frames : Bool) (words : LiveWords) → DoesTalk page_words E talk false one frames false words start end stop
      → DoesTalk page_words E talk false other frames false words start end stop
  talked false words does = does
  talked true words does = does

  -- a work
  worked : (work : Work) → DoesWork page_words E talk false one work start end stop
      → DoesWork page_words E talk false other work start end stop
  worked (Once job) does = does
  worked (OnNode own) does = does
  worked (Live words) does = talked words.frames words does
  worked (Printed text) does = does

  -- words
  pub linkless : (words : List Text) → DoesGiven page_words E talk false one words start end stop
      → DoesGiven page_words E talk false other words start end stop
  linkless words (inl does) = inl (record { work = does.work; named = does.named; done = worked does.work does.done })
  linkless words (inr (inl does)) = inr (inl (record { text = does.text; asked = does.asked; reported = does.reported }))
  linkless words (inr (inr does)) =
      inr (inr (record { fault = does.fault; asked = does.asked; code = does.code; ended = does.ended; same = does.same }))
