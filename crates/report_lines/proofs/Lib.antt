pub mod ReportPieces
