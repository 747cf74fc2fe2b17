-- The fault that is reported is one of all faults.
use Rattle.std.specs.Prelude.{All, nat_lt, if◌then◌else◌}
use Rattle.std.specs.Option.{option_or}
use Rattle.std.proofs.Common.{◌≡◌, ◌⊎◌, ◌<◌, ◌++◌, ℕ, suc, Bool, true, false, List, [], ◌∷◌, Option, Some, None, refl, sym, ap, ◌∙◌, subst, inl, inr, arith}
use Rattle.std.proofs.lemmas.Bool.{lt-ltb}
use Rattle.std.proofs.lemmas.Bool.Decides.{nat_tests}
use Rattle.std.proofs.lemmas.List.{append-nil, append_assoc}
use Rattle.std.proofs.lemmas.List.Elements.{All-head, All-nil, All-push, All-tail, All-weaker}
use Rattle.machine.specs.Sizes.{Maps}
use Rattle.policy_table.specs.PartialTables.{HasBadLine, IsStatement, IsStatementTwo, LinesWrite, TakesLine, empty_partial_table, first_reversed}
use Rattle.policy_table.specs.Policies.{PolicyValue, ReadingValue, WritesPolicy, WritesReading, policy_fault, policy_value, policy_reading_of, reversed_fault, placed_rule_fault, placed_rules_fault}
use Rattle.policy_table.specs.Ranges.{RangeText}
use Rattle.policy_table.specs.Room.{length_from, length_fault, room_after, room_fault}
use Rattle.policy_table.specs.Statements.{statement_words}
use Rattle.policy_table.specs.Surveys.{AreFaults, FindsBad, FindsLine, FindsLines, IsReported, SurveyValue, empty_survey, first_text_fault, first_of_code, listed, reported_fault, reversed_at, statement_faults, with_statement}
use Rattle.policy_table.specs.declared.partial_tables.TableStatement.{TableStatement}
use Rattle.policy_table.specs.declared.partial_tables.TableStatement.TheVariants as says
use Rattle.policy_table.specs.declared.port_rules.PortRule.{PortRule}
use Rattle.policy_table.specs.declared.ranges.NamedRange.{NamedRange}
use Rattle.policy_table.specs.declared.room.Room.{Room}
use Rattle.policy_table.specs.declared.statement_faults.StatementFault.TheVariants as wrong
use Rattle.policy_table.specs.declared.text_faults.TextFault.{TextFault}
use Rattle.policy_table.specs.declared.text_faults.TextFault.TheVariants.{Line}
use Rattle.policy_table.specs.declared.versions.TableVersion.{TableVersion}
use Rattle.policy_table.specs.declared.versions.TableVersion.TheVariants.{One, Two}
use Rattle.policy_table.proofs.FaultCodes.{bad_first, code_append, first_append, first_listed, room_of, statement_five, statement_one, reported_bad}

-- ---- options

or_assoc : (a b c : Option TextFault) → option_or (option_or a b) c ≡ option_or a (option_or b c)
or_assoc None b c = refl
or_assoc (Some fault) b c = refl

or_none : (o : Option TextFault) → option_or o None ≡ o
or_none None = refl
or_none (Some fault) = refl

none_left : (a b : Option TextFault) → option_or a b ≡ None → a ≡ None
none_left None b is = refl
none_left (Some fault) b is = cc

none_right : (a b : Option TextFault) → option_or a b ≡ None → b ≡ None
none_right None b is = is
none_right (Some fault) b is = cc

-- ---- the first fault of rules, rule by rule

-- a rule is in a line before this one
abbrev IsEarlier : (line : ℕ) → PortRule → Type 0
IsEarlier line own = own.line < line

-- and so is a range
abbrev IsEarlierRange : (line : ℕ) → Option ℕ → Type 0
IsEarlierRange line None = Unit {0}
IsEarlierRange line (Some at) = at < line

one_later : (line : ℕ) (rules : List PortRule) → All (IsEarlier line) rules → All (IsEarlier (suc line)) rules
one_later line rules before = All-weaker (IsEarlier line) (IsEarlier (suc line)) (λ own early. omega (arith, early)) rules before

range_later : (line : ℕ) (reversed : Option ℕ) → IsEarlierRange line reversed → IsEarlierRange (suc line) reversed
range_later line None before = tt
range_later line (Some at) before = omega (arith, before)

-- if no range ends before it begins
plain_more : (sizes : Maps) (rules : List PortRule) (own : PortRule) → placed_rules_fault sizes None (rules ++ own ∷ []) ≡ option_or (placed_rules_fault sizes None rules) (placed_rule_fault sizes own)
plain_more sizes [] own = or_none (placed_rule_fault sizes own)
plain_more sizes (first ∷ rules) own =
    ap (λ (o : Option TextFault). option_or (placed_rule_fault sizes first) o) (plain_more sizes rules own)
    ∙ sym (or_assoc (placed_rule_fault sizes first) (placed_rules_fault sizes None rules) (placed_rule_fault sizes own))

-- if one does, above the rule
ranged_more : (sizes : Maps) (at : ℕ) (rules : List PortRule) (own : PortRule) → at < own.line → placed_rules_fault sizes (Some at) (rules ++ own ∷ []) ≡ placed_rules_fault sizes (Some at) rules
ranged_more sizes at [] own above = rw (lt-ltb at own.line above) refl
ranged_more sizes at (first ∷ rules) own above =
    ap (λ (o : Option TextFault). if nat_lt at first.line then Some (Line at wrong.RangeOrder) else option_or (placed_rule_fault sizes first) o) (ranged_more sizes at rules own above)

-- there is a fault
ranged_some : (sizes : Maps) (at : ℕ) (rules : List PortRule) → (fault : TextFault) × (placed_rules_fault sizes (Some at) rules ≡ Some fault)
ranged_some sizes at [] = (Line at wrong.RangeOrder, refl)
ranged_some sizes at (first ∷ rules) = chosen (nat_lt at first.line) (placed_rule_fault sizes first) (ranged_some sizes at rules)
  where
    chosen : (t : Bool) (o : Option TextFault) → (fault : TextFault) × (placed_rules_fault sizes (Some at) rules ≡ Some fault)
        → (fault : TextFault) × ((if t then Some (Line at wrong.RangeOrder) else option_or o (placed_rules_fault sizes (Some at) rules)) ≡ Some fault)
    chosen true o rest = (Line at wrong.RangeOrder, refl)
    chosen false None rest = rest
    chosen false (Some fault) rest = (fault, refl)

not_later : (line other : ℕ) → other < line → nat_lt line other ≡ false
not_later line other early = grind (arith, nat_tests, early)

-- the first range that does, after all rules
ranged_last : (sizes : Maps) (line : ℕ) (rules : List PortRule) → All (IsEarlier line) rules → placed_rules_fault sizes (Some line) rules ≡ option_or (placed_rules_fault sizes None rules) (Some (Line line wrong.RangeOrder))
ranged_last sizes line [] before = refl
ranged_last sizes line (first ∷ rules) before =
    let early : first.line < line = All-head (IsEarlier line) first rules before in
    let test : nat_lt line first.line ≡ false = not_later line first.line early in
    rw test
    (ap (λ (o : Option TextFault). option_or (placed_rule_fault sizes first) o) (ranged_last sizes line rules (All-tail (IsEarlier line) first rules before))
    ∙ sym (or_assoc (placed_rule_fault sizes first) (placed_rules_fault sizes None rules) (Some (Line line wrong.RangeOrder))))

-- a fault that is there stays the first
same_first : (o p : Option TextFault) → (fault : TextFault) × (o ≡ Some fault) → option_or o p ≡ o
same_first o p some = ap (λ (x : Option TextFault). option_or x p) some.1 ∙ sym some.1

rule_more : (sizes : Maps) (reversed : Option ℕ) (rules : List PortRule) (own : PortRule) (line : ℕ) → own.line ≡ line → IsEarlierRange line reversed → placed_rules_fault sizes reversed (rules ++ own ∷ []) ≡ option_or (placed_rules_fault sizes reversed rules) (placed_rule_fault sizes own)
rule_more sizes None rules own line here before = plain_more sizes rules own
rule_more sizes (Some at) rules own line here before =
    ranged_more sizes at rules own (omega (arith, here, before)) ∙ sym (same_first (placed_rules_fault sizes (Some at) rules) (placed_rule_fault sizes own) (ranged_some sizes at rules))

range_more : (sizes : Maps) (reversed : Option ℕ) (rules : List PortRule) (line : ℕ) → All (IsEarlier line) rules → placed_rules_fault sizes (option_or reversed (Some line)) rules ≡ option_or (placed_rules_fault sizes reversed rules) (Some (Line line wrong.RangeOrder))
range_more sizes None rules line before = ranged_last sizes line rules before
range_more sizes (Some at) rules line before = sym (same_first (placed_rules_fault sizes (Some at) rules) (Some (Line line wrong.RangeOrder)) (ranged_some sizes at rules))

-- ---- lines that are not bad

-- of lines before this one none is bad, and the faults are those of the table so far
record IsClean (version : TableVersion) (sizes : Maps) (line : ℕ) (s : SurveyValue) : Type 0 where
  fine : first_of_code 5 s.faults ≡ None
  long : (rest : List PortRule) → length_fault version (s.partial_table.rules ++ rest) ≡ option_or (first_of_code 1 s.faults) (length_from version s.room rest)
  short : first_of_code 1 s.faults ≡ None → first_text_fault s.faults ≡ placed_rules_fault sizes s.partial_table.reversed s.partial_table.rules
  rules : All (IsEarlier line) s.partial_table.rules
  range : IsEarlierRange line s.partial_table.reversed

none_clean : (version : TableVersion) (sizes : Maps) (line : ℕ) → IsClean version sizes line (empty_survey version)
none_clean version sizes line = record {
  fine = refl;
  long = λ rest. refl;
  short = λ none. refl;
  rules = All-nil (IsEarlier line);
  range = tt;
}

-- the line of the rule that a line says is its own
two_line : (ranges : List RangeText) (line : ℕ) (words : List (List ℕ)) (own : PortRule) → IsStatementTwo ranges line words (says.Rule own) → own.line ≡ line
two_line ranges line [] own is = absurd is
two_line ranges line (first ∷ rest) own is = let (kind, rule) = is in let (are, here) = rule in here

own_line : (version : TableVersion) (ranges : List RangeText) (line : ℕ) (text : List ℕ) (own : PortRule) → IsStatement version ranges line text (says.Rule own) → own.line ≡ line
own_line One ranges line text own is = let (rule, port, named, here) = is in here
own_line Two ranges line text own is = two_line ranges line (statement_words text) own is

-- what the faults of one number come to after one line more
one_more : (version : TableVersion) (sizes : Maps) (line : ℕ) (statement : TableStatement) (s : SurveyValue) → first_of_code 1 (with_statement version sizes line statement s).faults ≡ option_or (first_of_code 1 s.faults) (room_of version s.room statement)
one_more version sizes line statement s =
    code_append 1 s.faults (statement_faults version sizes s.room line statement)
    ∙ ap (λ (o : Option TextFault). option_or (first_of_code 1 s.faults) o) (statement_one version sizes s.room line statement)

fine_more : (version : TableVersion) (sizes : Maps) (line : ℕ) (statement : TableStatement) (s : SurveyValue) → first_of_code 5 s.faults ≡ None → first_of_code 5 (with_statement version sizes line statement s).faults ≡ None
fine_more version sizes line statement s fine =
    code_append 5 s.faults (statement_faults version sizes s.room line statement)
    ∙ ap (λ (o : Option TextFault). option_or o (first_of_code 5 (statement_faults version sizes s.room line statement))) fine
    ∙ statement_five version sizes s.room line statement

-- if no rule is said
long_same : (version : TableVersion) (sizes : Maps) (line : ℕ) (statement : TableStatement) (s : SurveyValue) (rest : List PortRule) → room_of version s.room statement ≡ None → length_fault version (s.partial_table.rules ++ rest) ≡ option_or (first_of_code 1 s.faults) (length_from version s.room rest)
    → length_fault version (s.partial_table.rules ++ rest) ≡ option_or (first_of_code 1 (with_statement version sizes line statement s).faults) (length_from version s.room rest)
long_same version sizes line statement s rest room long =
    let same : first_of_code 1 (with_statement version sizes line statement s).faults ≡ first_of_code 1 s.faults =
    one_more version sizes line statement s ∙ ap (λ (o : Option TextFault). option_or (first_of_code 1 s.faults) o) room ∙ or_none (first_of_code 1 s.faults) in
    long ∙ ap (λ (o : Option TextFault). option_or o (length_from version s.room rest)) (sym same)

-- if one is
long_more : (version : TableVersion) (sizes : Maps) (line : ℕ) (own : PortRule) (s : SurveyValue) (rest : List PortRule)
    → ((left : List PortRule) → length_fault version (s.partial_table.rules ++ left) ≡ option_or (first_of_code 1 s.faults) (length_from version s.room left))
    → length_fault version ((s.partial_table.rules ++ own ∷ []) ++ rest) ≡ option_or (first_of_code 1 (with_statement version sizes line (says.Rule own) s).faults) (length_from version (room_after version s.room own) rest)
long_more version sizes line own s rest long =
    let left : Option TextFault = length_from version (room_after version s.room own) rest in
    ap (λ (rules : List PortRule). length_fault version rules) (append_assoc s.partial_table.rules (own ∷ []) rest)
    ∙ long (own ∷ rest)
    ∙ sym (or_assoc (first_of_code 1 s.faults) (room_fault version s.room own) left)
    ∙ ap (λ (o : Option TextFault). option_or o left) (sym (one_more version sizes line (says.Rule own) s))

-- what the first fault comes to after a line of which this is the first
first_more : (version : TableVersion) (sizes : Maps) (line : ℕ) (statement : TableStatement) (s : SurveyValue) (own : Option TextFault) → first_text_fault (statement_faults version sizes s.room line statement) ≡ own
    → first_text_fault (with_statement version sizes line statement s).faults ≡ option_or (first_text_fault s.faults) own
first_more version sizes line statement s own is =
    first_append s.faults (statement_faults version sizes s.room line statement) ∙ ap (λ (o : Option TextFault). option_or (first_text_fault s.faults) o) is

nothing_clean : (version : TableVersion) (sizes : Maps) (line : ℕ) (s : SurveyValue) → IsClean version sizes line s → IsClean version sizes (suc line) (with_statement version sizes line says.Nothing s)
nothing_clean version sizes line s clean = record {
  fine = fine_more version sizes line says.Nothing s clean.fine;
  long = λ rest. long_same version sizes line says.Nothing s rest refl (clean.long rest);
  short = λ none.
      first_more version sizes line says.Nothing s None refl ∙ or_none (first_text_fault s.faults)
      ∙ clean.short (none_left (first_of_code 1 s.faults) None (sym (one_more version sizes line says.Nothing s) ∙ none));
  rules = one_later line s.partial_table.rules clean.rules;
  range = range_later line s.partial_table.reversed clean.range;
}

range_first : (sizes : Maps) (line : ℕ) (reversed : Bool) (earlier : Option ℕ) (rules : List PortRule) → All (IsEarlier line) rules
    → option_or (placed_rules_fault sizes earlier rules) (reversed_fault (reversed_at line reversed)) ≡ placed_rules_fault sizes (first_reversed earlier reversed line) rules
range_first sizes line true earlier rules before = sym (range_more sizes earlier rules line before)
range_first sizes line false earlier rules before = or_none (placed_rules_fault sizes earlier rules)

range_kept : (line : ℕ) (reversed : Bool) (earlier : Option ℕ) → IsEarlierRange line earlier → IsEarlierRange (suc line) (first_reversed earlier reversed line)
range_kept line true None before = omega arith
range_kept line true (Some at) before = omega (arith, before)
range_kept line false earlier before = range_later line earlier before

range_clean : (version : TableVersion) (sizes : Maps) (line : ℕ) (range : NamedRange) (reversed : Bool) (s : SurveyValue) → IsClean version sizes line s → IsClean version sizes (suc line) (with_statement version sizes line (says.Range range reversed) s)
range_clean version sizes line range reversed s clean =
    let said : TableStatement = says.Range range reversed in record {
      fine = fine_more version sizes line said s clean.fine;
      long = λ rest. long_same version sizes line said s rest refl (clean.long rest);
      short = λ none.
          first_more version sizes line said s (reversed_fault (reversed_at line reversed)) (first_listed (reversed_fault (reversed_at line reversed)))
          ∙ ap (λ (o : Option TextFault). option_or o (reversed_fault (reversed_at line reversed))) (clean.short (none_left (first_of_code 1 s.faults) None (sym (one_more version sizes line said s) ∙ none)))
          ∙ range_first sizes line reversed s.partial_table.reversed s.partial_table.rules clean.rules;
      rules = one_later line s.partial_table.rules clean.rules;
      range = range_kept line reversed s.partial_table.reversed clean.range;
    }

rule_first : (version : TableVersion) (sizes : Maps) (room : Option Room) (own : PortRule) → room_fault version room own ≡ None → first_text_fault (listed (room_fault version room own) ++ listed (placed_rule_fault sizes own)) ≡ placed_rule_fault sizes own
rule_first version sizes room own none =
    ap (λ (o : Option TextFault). first_text_fault (listed o ++ listed (placed_rule_fault sizes own))) none ∙ first_listed (placed_rule_fault sizes own)

rule_clean : (version : TableVersion) (sizes : Maps) (line : ℕ) (own : PortRule) (s : SurveyValue) → own.line ≡ line → IsClean version sizes line s → IsClean version sizes (suc line) (with_statement version sizes line (says.Rule own) s)
rule_clean version sizes line own s here clean =
    let said : TableStatement = says.Rule own in record {
      fine = fine_more version sizes line said s clean.fine;
      long = λ rest. long_more version sizes line own s rest clean.long;
      short = λ none.
          let both : option_or (first_of_code 1 s.faults) (room_fault version s.room own) ≡ None = sym (one_more version sizes line said s) ∙ none in
          first_more version sizes line said s (placed_rule_fault sizes own) (rule_first version sizes s.room own (none_right (first_of_code 1 s.faults) (room_fault version s.room own) both))
          ∙ ap (λ (o : Option TextFault). option_or o (placed_rule_fault sizes own)) (clean.short (none_left (first_of_code 1 s.faults) (room_fault version s.room own) both))
          ∙ sym (rule_more sizes s.partial_table.reversed s.partial_table.rules own line here clean.range);
      rules = All-push (IsEarlier (suc line)) s.partial_table.rules own (one_later line s.partial_table.rules clean.rules) (omega (arith, here));
      range = range_later line s.partial_table.reversed clean.range;
    }

statement_clean : (version : TableVersion) (sizes : Maps) (line : ℕ) (text : List ℕ) (statement : TableStatement) (s : SurveyValue) → IsStatement version s.partial_table.ranges line text statement → IsClean version sizes line s → IsClean version sizes (suc line) (with_statement version sizes line statement s)
statement_clean version sizes line text says.Nothing s is clean = nothing_clean version sizes line s clean
statement_clean version sizes line text (says.Range range reversed) s is clean = range_clean version sizes line range reversed s clean
statement_clean version sizes line text (says.Rule own) s is clean = rule_clean version sizes line own s (own_line version s.partial_table.ranges line text own is) clean

-- ---- all lines

-- a fault that is the first of its number stays so
more_keep : (xs ys : List TextFault) (fault : TextFault) → first_of_code 5 xs ≡ Some fault → first_of_code 5 (xs ++ ys) ≡ Some fault
more_keep xs ys fault is = code_append 5 xs ys ∙ ap (λ (o : Option TextFault). option_or o (first_of_code 5 ys)) is

line_keeps : (version : TableVersion) (sizes : Maps) (line : ℕ) (text : List ℕ) (old next : SurveyValue) (fault : TextFault) → FindsLine version sizes line text old next → first_of_code 5 old.faults ≡ Some fault → first_of_code 5 next.faults ≡ Some fault
line_keeps version sizes line text old next fault (inl stated) is =
    subst (λ (s : SurveyValue). first_of_code 5 s.faults ≡ Some fault) (sym stated.found) (more_keep old.faults (statement_faults version sizes old.room line stated.statement) fault is)
line_keeps version sizes line text old next fault (inr bad) is =
    subst (λ (s : SurveyValue). first_of_code 5 s.faults ≡ Some fault) (sym bad.found) (more_keep old.faults (Line line bad.fault ∷ []) fault is)

lines_keep : (version : TableVersion) (sizes : Maps) (line : ℕ) (lines : List (List ℕ)) (old new : SurveyValue) (fault : TextFault) → FindsLines version sizes line lines old new → first_of_code 5 old.faults ≡ Some fault → first_of_code 5 new.faults ≡ Some fault
lines_keep version sizes line [] old new fault finds is = subst (λ (s : SurveyValue). first_of_code 5 s.faults ≡ Some fault) (sym finds) is
lines_keep version sizes line (text ∷ lines) old new fault finds is =
    lines_keep version sizes (suc line) lines finds.0 new fault finds.2 (line_keeps version sizes line text old finds.0 fault finds.1 is)

-- all lines are read, and what was found is what the table has. Or the first that is not read has the first fault of
-- its number
abbrev IsRead : TableVersion → Maps → (line : ℕ) → List (List ℕ) → (old new : SurveyValue) → Type 0
IsRead version sizes line lines old new =
    ((at : ℕ) × LinesWrite version line lines old.partial_table new.partial_table × IsClean version sizes at new)
    ⊎ ((fault : TextFault) × HasBadLine version line lines old.partial_table fault × (first_of_code 5 new.faults ≡ Some fault))

bad_read : (version : TableVersion) (sizes : Maps) (line : ℕ) (text : List ℕ) (lines : List (List ℕ)) (old next new : SurveyValue) → FindsBad version line text old next → FindsLines version sizes (suc line) lines next new → first_of_code 5 old.faults ≡ None → IsRead version sizes line (text ∷ lines) old new
bad_read version sizes line text lines old next new bad finds fine =
    let fault : TextFault = Line line bad.fault in
    let here : first_of_code 5 (old.faults ++ fault ∷ []) ≡ Some fault =
    code_append 5 old.faults (fault ∷ []) ∙ ap (λ (o : Option TextFault). option_or o (first_of_code 5 (fault ∷ []))) fine ∙ bad_first line bad.fault (reported_bad version old.partial_table.ranges text bad.fault bad.is) in
    inr (fault, inl (refl, bad.is), lines_keep version sizes (suc line) lines next new fault finds (subst (λ (s : SurveyValue). first_of_code 5 s.faults ≡ Some fault) (sym bad.found) here))

then_read : (version : TableVersion) (sizes : Maps) (line : ℕ) (text : List ℕ) (lines : List (List ℕ)) (old next new : SurveyValue) → TakesLine version line text old.partial_table next.partial_table → IsRead version sizes (suc line) lines next new → IsRead version sizes line (text ∷ lines) old new
then_read version sizes line text lines old next new takes (inl read) = inl (read.0, (next.partial_table, takes, read.1), read.2)
then_read version sizes line text lines old next new takes (inr bad) = inr (bad.0, inr (next.partial_table, takes, bad.1), bad.2)

line_read : (version : TableVersion) (sizes : Maps) (line : ℕ) (text : List ℕ) (lines : List (List ℕ)) (old next new : SurveyValue) → FindsLine version sizes line text old next → FindsLines version sizes (suc line) lines next new → IsClean version sizes line old
    → (IsClean version sizes (suc line) next → IsRead version sizes (suc line) lines next new) → IsRead version sizes line (text ∷ lines) old new
line_read version sizes line text lines old next new (inl stated) finds clean later =
    let takes : TakesLine version line text old.partial_table next.partial_table = record { statement = stated.statement; is = stated.is; taken = ap (λ (s : SurveyValue). s.partial_table) stated.found } in
    let more : IsClean version sizes (suc line) next = subst (λ (s : SurveyValue). IsClean version sizes (suc line) s) (sym stated.found) (statement_clean version sizes line text stated.statement old stated.is clean) in
    then_read version sizes line text lines old next new takes (later more)
line_read version sizes line text lines old next new (inr bad) finds clean later = bad_read version sizes line text lines old next new bad finds clean.fine

lines_read : (version : TableVersion) (sizes : Maps) (line : ℕ) (lines : List (List ℕ)) (old new : SurveyValue) → FindsLines version sizes line lines old new → IsClean version sizes line old → IsRead version sizes line lines old new
lines_read version sizes line [] old new finds clean =
    inl (line, ap (λ (s : SurveyValue). s.partial_table) finds, subst (λ (s : SurveyValue). IsClean version sizes line s) (sym finds) clean)
lines_read version sizes line (text ∷ lines) old new finds clean =
    line_read version sizes line text lines old finds.0 new finds.1 finds.2 clean (λ more. lines_read version sizes (suc line) lines finds.0 new finds.2 more)

-- ---- the fault that is reported

first_same : (o f g : Option TextFault) → (o ≡ None → f ≡ g) → option_or o f ≡ option_or o g
first_same None f g same = same refl
first_same (Some fault) f g same = refl

-- of lines that are read it is that of the table
clean_same : (version : TableVersion) (sizes : Maps) (at : ℕ) (s : SurveyValue) → IsClean version sizes at s → reported_fault s.faults ≡ policy_fault sizes (policy_value version s.partial_table.reversed s.partial_table.rules)
clean_same version sizes at s clean =
    let long : length_fault version s.partial_table.rules ≡ first_of_code 1 s.faults =
    ap (λ (rules : List PortRule). length_fault version rules) (sym (append-nil s.partial_table.rules)) ∙ clean.long [] ∙ or_none (first_of_code 1 s.faults) in
    ap (λ (o : Option TextFault). option_or o (option_or (first_of_code 1 s.faults) (first_text_fault s.faults))) clean.fine
    ∙ first_same (first_of_code 1 s.faults) (first_text_fault s.faults) (placed_rules_fault sizes s.partial_table.reversed s.partial_table.rules) clean.short
    ∙ ap (λ (o : Option TextFault). option_or o (placed_rules_fault sizes s.partial_table.reversed s.partial_table.rules)) (sym long)

table_reported : (sizes : Maps) (lines : List (List ℕ)) (policy : PolicyValue) (o : Option TextFault) → WritesPolicy lines policy → policy_fault sizes policy ≡ o → IsReported sizes lines o
table_reported sizes lines policy None writes is = (policy, writes, is)
table_reported sizes lines policy (Some fault) writes is = inr (policy, writes, is)

end_reported : (sizes : Maps) (lines : List (List ℕ)) (how : ReadingValue) (end : SurveyValue) → policy_reading_of lines ≡ how → IsRead how.version sizes (suc how.before) how.lines (empty_survey how.version) end → IsReported sizes lines (reported_fault end.faults)
end_reported sizes lines how end is (inl read) =
    let policy : PolicyValue = policy_value how.version end.partial_table.reversed end.partial_table.rules in
    let writes : WritesReading how policy = record { end = end.partial_table; are = read.1; is = refl } in
    table_reported sizes lines policy (reported_fault end.faults) (subst (λ (h : ReadingValue). WritesReading h policy) (sym is) writes) (sym (clean_same how.version sizes read.0 end read.2))
end_reported sizes lines how end is (inr bad) =
    subst (λ (o : Option TextFault). IsReported sizes lines o) (sym (ap (λ (o : Option TextFault). option_or o (option_or (first_of_code 1 end.faults) (first_text_fault end.faults))) bad.2))
    (inl (subst (λ (h : ReadingValue). HasBadLine h.version (suc h.before) h.lines empty_partial_table bad.0) (sym is) bad.1))

-- of all faults of lines
pub is_reported : (sizes : Maps) (lines : List (List ℕ)) (faults : List TextFault) → AreFaults sizes lines faults → IsReported sizes lines (reported_fault faults)
is_reported sizes lines faults all =
    let how : ReadingValue = policy_reading_of lines in
    subst (λ (fs : List TextFault). IsReported sizes lines (reported_fault fs)) (sym all.are)
    (end_reported sizes lines how all.end refl (lines_read how.version sizes (suc how.before) how.lines (empty_survey how.version) all.end all.found (none_clean how.version sizes (suc how.before))))
