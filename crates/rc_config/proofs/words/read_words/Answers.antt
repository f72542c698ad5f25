use Rattle.std.proofs.Common.{ℕ, List, Bor, Err, map, ap, ◌∙◌}
use Rattle.clap.specs.Words.{takes}
use Rattle.rc_config.specs.Program.{program}
use Rattle.rc_config.proofs.WordForms.{form_taken, form_utf8, passed_on, mode_is}
use Rattle.rc_config.proofs.words.read_words.Goals as goal

pub returns-in_err-texts-clause-only : goal.returns-in_err-texts-clause-only
returns-in_err-texts-clause-only c = λ mode form.
    passed_on c.from_residual.result c.in_err-texts.field-0.0 mode c.from_residual.ensures.1 (λ bad. c.in_err-texts.ensures.none (ap Err bad) (form_utf8 c.args.words.now mode form))

pub returns-in_err-matches-clause-only : goal.returns-in_err-matches-clause-only
returns-in_err-matches-clause-only c = λ mode form.
    let texts = ap (map (λ (s : Bor (List ℕ)). s.now)) c.as_slice.ensures.value ∙ c.in_ok-texts.ensures.texts in
    let taken = ap (takes program) texts ∙ form_taken c.args.words.now mode form in
    passed_on c.from_residual-in_err-matches.result c.in_err-matches.field-0.0 mode c.from_residual-in_err-matches.ensures.1 (λ bad. c.in_err-matches.ensures.taken taken (ap Err bad))

pub returns-in-Some-clause-only : goal.returns-in-Some-clause-only
returns-in-Some-clause-only c = λ mode form.
    let texts = ap (map (λ (s : Bor (List ℕ)). s.now)) c.as_slice.ensures.value ∙ c.in_ok-texts.ensures.texts in
    let found = mode_is c.args.words.now _ _ _ _ _ c.in_ok-mode.field-0 mode texts c.in_ok-matches.ensures.found.0 c.in_ok-matches.ensures.found.1 c.logs_in.ensures c.numbers_in.ensures c.in_ok-mode.ensures.exact form in
    let given = c.in-Some.is in
    (cc)

pub returns-clause-only : goal.returns-clause-only
returns-clause-only c = λ mode form.
    let texts = ap (map (λ (s : Bor (List ℕ)). s.now)) c.as_slice.ensures.value ∙ c.in_ok-texts.ensures.texts in
    let found = mode_is c.args.words.now _ _ _ _ _ c.in_ok-mode.field-0 mode texts c.in_ok-matches.ensures.found.0 c.in_ok-matches.ensures.found.1 c.logs_in.ensures c.numbers_in.ensures c.in_ok-mode.ensures.exact form in
    let given = c.in-None.is in
    (cc)
