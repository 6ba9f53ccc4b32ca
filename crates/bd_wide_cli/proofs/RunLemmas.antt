-- Runs in a layout that options name.
use Rattle.std.proofs.Common.{◌≡◌, [], Option, Some, None, codes, refl, subst, inl, inr}
use Rattle.bd_io_device.specs.Devices.{Over, Reader, Writer, between}
use Rattle.bd_io_device.proofs.DevicesLemmas.{takes_none}
use Rattle.bd_cli_scan.specs.{Output.error_line, Output.no_memory, Output.refusal_output, Run.Prints, Run.ReportsMessage, Run.Run}
use Rattle.bd_cli_scan.specs.declared.output.{Status.Status, Status.TheVariants.Failed}
use Rattle.bd_wide_layout.specs.Layout.{LayoutView}
use Rattle.bd_wide_cli.specs.Dump.{fields_refused, layout_run}

module _ (named : Option LayoutView) (file : Over Reader) (run : LayoutView → Run) where
  -- a run in the layout that is named
  pub runs_in : (layout : LayoutView) → Some layout ≡ named → {out err : Over Writer} {status : Status} → Prints (codes "bsonwide") (run layout) out err status
      → Prints (codes "bsonwide") (layout_run named file run) out err status
  runs_in layout is {out} {err} {status} prints =
      subst (λ (o : Option LayoutView). Prints (codes "bsonwide") (layout_run o file run) out err status) is prints

  module _ (unread : file.after ≡ file.before) (out : Writer) (err : Over Writer) (status : Status) where
    -- the fields are refused
    pub refuses_fields : None ≡ named → ReportsMessage err (error_line (codes "bsonwide") fields_refused) Failed status
        → Prints (codes "bsonwide") (layout_run named file run) (between out out) err status
    refuses_fields is reported =
        subst (λ (o : Option LayoutView). Prints (codes "bsonwide") (layout_run o file run) (between out out) err status) is
        (inl (refusal_output fields_refused, (refl, unread), takes_none out, reported))

    -- memory ran out before the layout was read
    pub runs_out : ((layout : LayoutView) → (run layout).IsBegun []) → ReportsMessage err (error_line (codes "bsonwide") no_memory) Failed status
        → Prints (codes "bsonwide") (layout_run named file run) (between out out) err status
    runs_out begun reported = by_name named
      where
        by_name : (o : Option LayoutView) → Prints (codes "bsonwide") (layout_run o file run) (between out out) err status
        by_name None = inr (inr ([], (refl, unread), takes_none out, reported))
        by_name (Some layout) = inr (inr ([], begun layout, takes_none out, reported))
