mod PrinterLemmas
