use Rattle.std.proofs.Common.{rules, ap, ap₂, codes, true, ◌≡◌, ◌∙◌}
use Rattle.std.proofs.lemmas.Result.{IfOk-weaker}
use Rattle.clap.specs.Words.{App, Shape, app_of, new_app, rule_of, with_rule, with_subcommand}
use Rattle.clap.specs.Simple.{app_of_fields, on_top}
use Rattle.rc_config.specs.Program.{logs_rule, number_rule, size_rule, generate_app, without_extras}
use Rattle.rc_config.proofs.command_line.program.Goals as goal

pub returns : goal.returns
returns c =
    let logs_is : rule_of c.long-logs.result ≡ logs_rule = search rules in
    let number_is : rule_of c.required-number.result ≡ number_rule = search rules in
    let size_is : rule_of c.required-size.result ≡ size_rule = search rules in
    let generate_is : app_of c.in_ok-generate.generate ≡ generate_app = c.in_ok-generate.ensures.shape (search rules)
    ∙ ap₂ with_rule (c.in_ok-arg.ensures.shape (search rules) ∙ ap₂ with_rule c.new-4.ensures.app number_is) size_is in
    let unnamed : app_of c.no_binary_name.result ≡ on_top (λ s. record s { no_binary_name = true }) (new_app (codes "rc_play")) =
    ap app_of_fields c.no_binary_name.ensures ∙ ap (on_top (λ (s : Shape). record s { no_binary_name = true })) c.new-5.ensures.app in
    let unhelped : app_of c.disable_help_flag.result ≡ on_top (λ s. record s { disable_help_flag = true }) (on_top (λ s. record s { no_binary_name = true }) (new_app (codes "rc_play"))) =
    ap app_of_fields c.disable_help_flag.ensures ∙ ap (on_top (λ (s : Shape). record s { disable_help_flag = true })) unnamed in
    let plain_is : app_of c.disable_help_subcommand-plain.result ≡ on_top without_extras (new_app (codes "rc_play")) =
    ap app_of_fields c.disable_help_subcommand-plain.ensures ∙ ap (on_top (λ (s : Shape). record s { disable_help_subcommand = true })) unhelped in
    let logged : app_of c.in_ok-arg-2.field-0 ≡ with_rule (on_top without_extras (new_app (codes "rc_play"))) logs_rule =
    c.in_ok-arg-2.ensures.shape (search rules) ∙ ap₂ with_rule plain_is logs_is in
    IfOk-weaker c.subcommand.result _ _ (λ r h. h.shape (search rules) ∙ ap₂ with_subcommand logged (ap (λ (a : App). a.top) generate_is)) c.subcommand.ensures
