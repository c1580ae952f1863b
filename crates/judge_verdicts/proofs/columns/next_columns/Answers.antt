-- Keys, and then as many values.
use Rattle.std.proofs.Common.{◌≡◌, ℕ, ◌++◌, ap, length, subst, sym, ◌∙◌, append_assoc}
use Rattle.commonware_base.proofs.Errors.{err_along}
use Rattle.commonware_map.proofs.MapReads.{keys_want_memory, rest_bytes}
use Rattle.commonware_utils.specs.Codec.{AreBytes, Bounds, IsAllowedList, IsListMemoryFree, IsWritableList, ListFault, Refuses, SequenceFault, bad_first, bad_second, bytes_right, exactly, list_enc, refuses_from, rest_of}
use Rattle.judge_verdicts.proofs.columns.next_columns.Goals as goal

pub returns-in_err-keys-clause-refused : goal.returns-in_err-keys-clause-refused
returns-in_err-keys-clause-refused g c =
    let cfg = c.args.cfg.now in
    let text = rest_of c.args.source.now in
    let key_fault = ListFault g.K.EncodeSize.enc g.K.EncodeSize.writable (g.K.Read.allowed cfg.1) (g.K.Read.fault cfg.1) cfg.0 in
    let free = IsListMemoryFree (g.K.Read.fault cfg.1) (g.K.Read.memory_free cfg.1) cfg.0 text in
    let both_fault = SequenceFault (list_enc g.K.EncodeSize.enc) (IsWritableList g.K.EncodeSize.writable) (IsAllowedList cfg.0 (g.K.Read.allowed cfg.1)) (ListFault g.K.EncodeSize.enc g.K.EncodeSize.writable (g.K.Read.allowed cfg.1) (g.K.Read.fault cfg.1) cfg.0)
    (λ keys. ListFault g.V.EncodeSize.enc g.V.EncodeSize.writable (g.V.Read.allowed cfg.2) (g.V.Read.fault cfg.2) (exactly (length keys))) text in
    err_along c.from_residual.result c.in_err-keys.field-0.0 (Refuses both_fault free) c.from_residual.ensures.1 (refuses_from (key_fault text) both_fault free free (λ f w. bad_first w) (λ needs. needs) c.in_err-keys.field-0.0 c.in_err-keys.ensures.refused)

pub returns-clause-accepted : goal.returns-clause-accepted
returns-clause-accepted g c =
    let cfg = c.args.cfg.now in
    let a = c.in_ok-keys.ensures in
    let b = c.in_ok-values.ensures in
    let range : c.exact.result ≡ exactly (length c.in_ok-keys.keys.items) = c.exact.ensures.bounds ∙ ap exactly (c.len.ensures ∙ c.in_ok-keys.keys.ok.0) in
    record {
      writable = (a.writable, b.writable);
      allowed = (a.allowed, subst (λ r. IsAllowedList r (g.V.Read.allowed cfg.2) c.in_ok-values.values.items) range b.allowed);
      begins = a.consumed.rest ∙ ap (λ u. list_enc g.K.EncodeSize.enc c.in_ok-keys.keys.items ++ u) b.consumed.rest ∙ sym (append_assoc (list_enc g.K.EncodeSize.enc c.in_ok-keys.keys.items) (list_enc g.V.EncodeSize.enc c.in_ok-values.values.items) _);
    }

pub returns-in_err-values-clause-refused : goal.returns-in_err-values-clause-refused
returns-in_err-values-clause-refused g c =
    let cfg = c.args.cfg.now in
    let text = rest_of c.args.source.now in
    let after = rest_of c.read_list.new.src in
    let a = c.in_ok-keys.ensures in
    let keys = c.in_ok-keys.keys.items in
    let bytes = bytes_right (list_enc g.K.EncodeSize.enc keys) after (subst AreBytes a.consumed.rest (rest_bytes c.args.source.now c.args.source.now.are_bytes)) in
    let range : c.exact.result ≡ exactly (length keys) = c.exact.ensures.bounds ∙ ap exactly (c.len.ensures ∙ c.in_ok-keys.keys.ok.0) in
    let value_fault = λ (r : Bounds ℕ). ListFault g.V.EncodeSize.enc g.V.EncodeSize.writable (g.V.Read.allowed cfg.2) (g.V.Read.fault cfg.2) r after in
    let free = λ (r : Bounds ℕ). IsListMemoryFree (g.V.Read.fault cfg.2) (g.V.Read.memory_free cfg.2) r after in
    let both_fault = SequenceFault (list_enc g.K.EncodeSize.enc) (IsWritableList g.K.EncodeSize.writable) (IsAllowedList cfg.0 (g.K.Read.allowed cfg.1)) (ListFault g.K.EncodeSize.enc g.K.EncodeSize.writable (g.K.Read.allowed cfg.1) (g.K.Read.fault cfg.1) cfg.0)
    (λ keys. ListFault g.V.EncodeSize.enc g.V.EncodeSize.writable (g.V.Read.allowed cfg.2) (g.V.Read.fault cfg.2) (exactly (length keys))) text in
    err_along c.from_residual-in_err-values.result c.in_err-values.field-0.0 (Refuses both_fault (IsListMemoryFree (g.K.Read.fault cfg.1) (g.K.Read.memory_free cfg.1) cfg.0 text)) c.from_residual-in_err-values.ensures.1
    (refuses_from (value_fault (exactly (length keys))) both_fault (free (exactly (length keys))) (IsListMemoryFree (g.K.Read.fault cfg.1) (g.K.Read.memory_free cfg.1) cfg.0 text)
    (λ f w. bad_second keys after (record { writable = a.writable; allowed = a.allowed; begins = a.consumed.rest }) w)
    (keys_want_memory g.K.EncodeSize.enc g.K.EncodeSize.writable (g.K.Read.allowed cfg.1) (g.K.Read.fault cfg.1) (g.K.Read.memory_free cfg.1) (g.met.K.Read.read_laws c.args.alloc cfg.1) cfg.0
    g.V.EncodeSize.enc g.V.EncodeSize.writable (g.V.Read.allowed cfg.2) (g.V.Read.fault cfg.2) (g.V.Read.memory_free cfg.2) g.met.V.EncodeSize.prefix_free (g.met.V.Read.read_laws c.args.alloc cfg.2)
    text after keys a.writable a.allowed a.consumed.rest bytes)
    c.in_err-values.field-0.0
    (subst (λ r. Refuses (value_fault r) (free r) c.in_err-values.field-0.0) range c.in_err-values.ensures.refused))
