-- How a link ends that was held to its end.
use Rattle.std.proofs.Common.{◌≡◌, Bool, true, false, inl, inr, sym}
use Rattle.job_parts.specs.Files.{ReadsFile}
use Rattle.linking.specs.Linking.{Fails, Moves}
use Rattle.job_frames.specs.FramesJob.{HoldsFrames, LivesFrames, link_status_of}
use Rattle.job_live.specs.declared.words.LiveWords.{LiveWords}

-- the exit status is that of such an end
pub ends : {S L : Type 0} (reads : ReadsFile S) (received sent reported : Moves L) (unread : Fails L) (unsent unreported : Moves L) (words : LiveWords) (lost : L → Bool) (before after : S) (start stop : L) (is_whole has_lost : Bool)
    → HoldsFrames reads received sent reported unread unsent unreported words before after start stop is_whole → has_lost ≡ lost stop
    → LivesFrames reads received sent reported unread unsent unreported words lost before after start stop (link_status_of is_whole has_lost)
ends reads received sent reported unread unsent unreported words lost before after start stop true true held is = inl (inr (held, sym is))
ends reads received sent reported unread unsent unreported words lost before after start stop true false held is = (held, sym is)
ends reads received sent reported unread unsent unreported words lost before after start stop false true held is = inl (inl held)
ends reads received sent reported unread unsent unreported words lost before after start stop false false held is = inl (inl held)
