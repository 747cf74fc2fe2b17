use Rattle.std.proofs.Common.{lit<, Some, None}
use Rattle.std.proofs.lemmas.Str.Pattern.{strip_suffix_char}
use Rattle.job_parts.proofs.MapLists.{counters_of, peaks_of}
use Rattle.job_parts.proofs.options.size_and_kind.Goals as goal

pub returns-in-Some-clause-digits : goal.returns-in-Some-clause-digits
returns-in-Some-clause-digits c =
    (peaks_of c.args.part.now c.in-Some.digits.now (strip_suffix_char 112 c.args.part.now (Some c.in-Some.digits) c.in-Some.ensures.cases (lit< tt))).0

pub returns-in-Some-clause-kind : goal.returns-in-Some-clause-kind
returns-in-Some-clause-kind c =
    (peaks_of c.args.part.now c.in-Some.digits.now (strip_suffix_char 112 c.args.part.now (Some c.in-Some.digits) c.in-Some.ensures.cases (lit< tt))).1

pub returns-in-None-clause-digits : goal.returns-in-None-clause-digits
returns-in-None-clause-digits c =
    (counters_of c.args.part.now (strip_suffix_char 112 c.args.part.now None c.in-None.ensures.cases (lit< tt))).0

pub returns-in-None-clause-kind : goal.returns-in-None-clause-kind
returns-in-None-clause-kind c =
    (counters_of c.args.part.now (strip_suffix_char 112 c.args.part.now None c.in-None.ensures.cases (lit< tt))).1
